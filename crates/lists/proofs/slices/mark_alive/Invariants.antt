-- `lists::slices::mark_alive` meets its contract: the records below i are marked where they are alive.
use Rattle.meaning.specs.Document.{Doc}
use Rattle.meaning.specs.Day.{alive}
use Rattle.columns.specs.Lent.{Lends, PeriodsOf}
use Rattle.lists.proofs.Marking.{Below}
use Rattle.lists.proofs.slices.mark_alive.Given as goal

abbrev pub invariant-loop-i : goal.invariant-loop-i
invariant-loop-i l = (doc : Doc) → Lends doc.size doc.kind 0 l.records.kind.now → PeriodsOf doc l.records → Below (alive doc l.d) l.i l.marks
