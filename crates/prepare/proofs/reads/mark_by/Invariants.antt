-- `prepare::reads::mark_by` meets its contract: below i each record has its mark.
use mathlib.Core.Path.{◌≡◌}
use lib.ListN.{length}
use Rattle.meaning.specs.declared.Rule.{Rule}
use Rattle.meaning.specs.Document.{Doc}
use Rattle.meaning.specs.Select.{selected, reads_own}
use Rattle.marks.specs.Marks.{Marks}
use Rattle.prepare.specs.Holders.{Holders}
use Rattle.prepare.proofs.Filling.{Filled, Marked}
use Rattle.prepare.proofs.reads.mark_by.Given as goal

abbrev pub invariant-loop-i : goal.invariant-loop-i
invariant-loop-i l = (length l.marks ≡ length l.initial.marks)
    × ((doc : Doc) (rule : Rule) → doc.size ≡ l.n → Marks (selected doc rule) doc.size l.chosen → Holders doc rule l.holder → Filled (Marked (reads_own doc rule)) l.i l.marks)
