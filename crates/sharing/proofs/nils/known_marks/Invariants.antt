-- `sharing::nils::known_marks` meets its contract: below i each record has its mark.
use mathlib.Core.Path.{◌≡◌}
use mathlib.Core.Bool.{not}
use lib.Dec.{eqb}
use lib.ListN.{length, get_or}
use Rattle.prepare.proofs.Filling.{Filled, Marked}
use Rattle.sharing.proofs.nils.known_marks.Given as goal

abbrev pub invariant-loop-i : goal.invariant-loop-i
invariant-loop-i l = (length l.known ≡ length l.initial.known) × Filled (Marked (λ y. not (eqb (get_or l.vkind y 0) 3))) l.i l.known
