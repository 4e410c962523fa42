-- `prepare::sift` meets its contract: below i each record has what is left below it, its row and its mark.
use Rattle.meaning.specs.Document.{Doc}
use Rattle.columns.specs.Lent.{TreeOf, ValuesOf}
use Rattle.prepare.proofs.Owning.{Sifting}
use Rattle.prepare.proofs.sift.Given as goal

abbrev pub invariant-loop-i : goal.invariant-loop-i
invariant-loop-i l = (doc : Doc) → TreeOf doc l.records → ValuesOf doc l.records → Sifting doc l.rule l.i l.chosen l.row l.read
