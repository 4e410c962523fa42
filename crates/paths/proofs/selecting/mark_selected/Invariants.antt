-- `paths::selecting::mark_selected` meets its contract: below i each record has its mark.
use mathlib.Core.Path.{◌≡◌}
use lib.ListN.{length}
use Rattle.meaning.specs.Document.{Doc}
use Rattle.meaning.specs.Select.{selected}
use Rattle.columns.specs.Lent.{TreeOf}
use Rattle.marks.specs.Marks.{Marks}
use Rattle.paths.proofs.selecting.mark_selected.Given as goal

abbrev pub invariant-loop-i : goal.invariant-loop-i
invariant-loop-i l = (length l.marks ≡ length l.initial.marks) × ((doc : Doc) → TreeOf doc l.records → Marks (selected doc l.rule) l.i l.marks)
