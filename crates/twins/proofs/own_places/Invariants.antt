-- `twins::own_places` meets its contract: below k each entry is its own place.
use Prim.Native.Nat.{ℕ, ◌<◌}
use mathlib.Core.Path.{◌≡◌}
use lib.ListN.{length, get_or}
use Rattle.meaning.specs.Block.{limit}
use Rattle.twins.proofs.own_places.Given as goal

abbrev pub invariant-loop-k : goal.invariant-loop-k
invariant-loop-k l = (length l.own ≡ limit) × ((j : ℕ) → j < l.k → get_or l.own j 0 ≡ j)
