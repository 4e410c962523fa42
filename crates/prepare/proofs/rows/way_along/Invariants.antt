-- `prepare::rows::way_along` meets its contract: the way is laid from i on, and `at` is the nearest marked record from there.
use Prim.Native.Nat.{ℕ}
use mathlib.Core.Path.{◌≡◌}
use lib.ListN.{length}
use mathlib.Core.Bool.{Bool}
use Rattle.marks.specs.Marks.{Marks}
use Rattle.prepare.proofs.Skipping.{Laid}
use Rattle.prepare.proofs.rows.way_along.Given as goal

abbrev pub invariant-loop-i : goal.invariant-loop-i
invariant-loop-i l = (length l.next ≡ length l.initial.next)
    × ((passes : ℕ → Bool) → Marks passes l.n l.marks → Laid passes l.n l.i l.at l.next)
