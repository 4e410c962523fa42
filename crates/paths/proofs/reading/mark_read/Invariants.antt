-- `paths::reading::mark_read` meets its contract: below i each record has its mark.
use mathlib.Core.Path.{◌≡◌}
use mathlib.Core.Bool.{◌||◌}
use lib.ListN.{length}
use Rattle.meaning.specs.Document.{Doc}
use Rattle.meaning.specs.Select.{selected, reads_own}
use Rattle.columns.specs.Lent.{TreeOf}
use Rattle.columns.specs.Judgeable.{Judgeable}
use Rattle.marks.specs.Marks.{Marks}
use Rattle.paths.proofs.reading.mark_read.Given as goal

abbrev pub invariant-loop-i : goal.invariant-loop-i
invariant-loop-i l = (length l.marks ≡ length l.initial.marks)
    × ((doc : Doc) → TreeOf doc l.records → Judgeable doc → Marks (selected doc l.r) doc.size l.own → Marks (selected doc l.other) doc.size l.held → Marks (λ k. reads_own doc l.r k || reads_own doc l.other k) l.i l.marks)
