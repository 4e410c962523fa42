-- What a prepared rule of a document holds.
use Rattle.meaning.specs.declared.Rule.{Rule}
use Rattle.meaning.specs.Document.{Doc}
use Rattle.meaning.specs.Select.{reads_own}
use Rattle.marks.specs.Marks.{Marks}
use Rattle.prepare.specs.declared.Prepared.{Prepared}
use Rattle.prepare.specs.Rows.{Rows}

-- its rows, and a mark on each version that it reads
pub record Rowed (doc : Doc) (r : Rule) (own : Prepared) : Type 0 where
  pub rows : Rows doc r own.start own.next own.last own.lower
  pub read : Marks (reads_own doc r) doc.size own.read
