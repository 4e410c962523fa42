-- `parts::alone::sole_keys` meets its contract: below i each record has its key.
use mathlib.Core.Path.{◌≡◌}
use Prim.Native.Nat.{◌<◌}
use lib.ListN.{length}
use Rattle.prepare.proofs.Filling.{Filled}
use Rattle.passes.specs.Passes.{at}
use Rattle.parts.proofs.alone.sole_keys.Given as goal

abbrev pub invariant-loop-i : goal.invariant-loop-i
invariant-loop-i l = record { size : length l.out ≡ length l.initial.out; keys : Filled (λ k x. at l.sole k < l.n → x ≡ at l.rep (at l.sole k)) l.i l.out }
