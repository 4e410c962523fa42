-- What a rule picks out of a document, before its rows are laid out.
use Rattle.std.specs.Prelude.{List, ℕ}
use Rattle.meaning.specs.declared.Rule.{Rule}
use Rattle.meaning.specs.Document.{Doc}
use Rattle.meaning.specs.Select.{selected, reads_own}
use Rattle.marks.specs.Marks.{Marks}
use Rattle.prepare.specs.Keys.{Keys}

-- a mark on each version that it selects, the row of each wanted field version, and a mark on each version that it reads
pub record Sifts (doc : Doc) (r : Rule) (chosen rows reads : List ℕ) : Type 0 where
  pub chosen_are : Marks (selected doc r) doc.size chosen
  pub rows_are : Keys doc r rows
  pub reads_are : Marks (reads_own doc r) doc.size reads
