-- What a document's columns must be like for the tests to run over them: of one length, and no longer than a document can be.
use Rattle.std.specs.Prelude.{◌≡◌, List, ℕ, ◌≤◌, ℤ, length}
use Rattle.meaning.specs.Block.{limit}
use Rattle.meaning.specs.Document.{Doc, columns}
use Rattle.columns.specs.declared.Records.{Records}

-- all nine columns
pub record Even (kinds vkinds names parents begins ends : List ℕ) (values : List ℤ) (items spares : List ℕ) : Type 0 where
  pub few : length kinds ≤ limit
  pub vkind : length vkinds ≡ length kinds
  pub name : length names ≡ length kinds
  pub parent : length parents ≡ length kinds
  pub begin : length begins ≡ length kinds
  pub end : length ends ≡ length kinds
  pub value : length values ≡ length kinds
  pub item : length items ≡ length kinds
  pub spare : length spares ≡ length kinds

-- the same of columns that are lent together, and of the spare one beside them
abbrev pub EvenBy : Records → List ℕ → Type 0
EvenBy r spares = Even r.kind.now r.vkind.now r.name.now r.parent.now r.begin.now r.end.now r.value.now r.item.now spares

-- the document in them
abbrev pub doc_in : Records → List ℕ → Doc
doc_in r spares = columns r.kind.now r.vkind.now r.name.now r.parent.now r.begin.now r.end.now r.value.now r.item.now spares
