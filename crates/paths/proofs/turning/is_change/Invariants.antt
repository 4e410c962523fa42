-- `paths::turning::is_change` meets its contract: no record below i that is read turns on the day.
use Prim.Native.Nat.{ℕ, ◌<◌}
use mathlib.Core.Path.{◌≡◌}
use mathlib.Core.Bool.{false}
use Rattle.paths.proofs.Days.{turning}
use Rattle.paths.proofs.turning.is_change.Given as goal

abbrev pub invariant-loop-i : goal.invariant-loop-i
invariant-loop-i l = (j : ℕ) → j < l.i → turning l.read l.begin l.end l.d j ≡ false
