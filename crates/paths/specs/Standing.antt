-- Where walking up from a version may start.
use Rattle.std.specs.Prelude.{◌≡◌, List, ℕ}
use Rattle.meaning.specs.Document.{Doc}
use Rattle.columns.specs.Lent.{Lends}
use Rattle.columns.specs.Judgeable.{Judgeable}

-- v is a version of some document that can be judged and has these names and parents
pub record Stands (names parents : List ℕ) (v : ℕ) : Type 0 where
  pub doc : Doc
  pub name : Lends doc.size doc.name 0 names
  pub parent : Lends doc.size doc.parent 0 parents
  pub judgeable : Judgeable doc
  pub version : doc.kind v ≡ 2
