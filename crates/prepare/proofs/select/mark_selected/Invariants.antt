-- `prepare::select::mark_selected` meets its contract: below i each record has what is left below it.
use mathlib.Core.Path.{◌≡◌}
use lib.ListN.{length}
use Rattle.meaning.specs.Document.{Doc}
use Rattle.columns.specs.Lent.{TreeOf}
use Rattle.prepare.specs.Descent.{Left}
use Rattle.prepare.proofs.Filling.{Filled}
use Rattle.prepare.proofs.select.mark_selected.Given as goal

abbrev pub invariant-loop-i : goal.invariant-loop-i
invariant-loop-i l = (length l.left ≡ length l.initial.left)
    × ((doc : Doc) → TreeOf doc l.records → Filled (Left doc l.rule) l.i l.left)
