-- `steps::mark_reaching` meets its contract: below i each record has its mark.
use mathlib.Core.Path.{◌≡◌}
use lib.Dec.{ltb}
use lib.ListN.{length, get_or}
use Rattle.prepare.proofs.Filling.{Filled, Marked}
use Rattle.steps.proofs.mark_reaching.Given as goal

abbrev pub invariant-loop-i : goal.invariant-loop-i
invariant-loop-i l = (length l.marks ≡ length l.initial.marks) × Filled (Marked (λ f. ltb 0 (get_or l.reach f 0))) l.i l.marks
