-- What testing the first entries of nine columns asks for.
use Rattle.std.specs.Prelude.{ℕ, ◌≤◌, List, length, take}
use Rattle.meaning.specs.Block.{limit}
use Rattle.meaning.specs.Document.{Doc, columns}
use Rattle.meaning.specs.Lent.{Lent, lent}
use Rattle.columns.specs.declared.Records.{Records}

-- nine columns have at least n entries, and n is no more than a document can have
pub record Front (n a b c d e f g h i : ℕ) : Type 0 where
  pub few : n ≤ limit
  pub kind : n ≤ a
  pub vkind : n ≤ b
  pub name : n ≤ c
  pub parent : n ≤ d
  pub begin : n ≤ e
  pub end : n ≤ f
  pub value : n ≤ g
  pub item : n ≤ h
  pub spare : n ≤ i

-- the same of columns that are lent together, and of the spare one beside them
abbrev pub FrontBy : ℕ → Records → List ℕ → Type 0
FrontBy n r spares =
    Front n (length r.kind.now) (length r.vkind.now) (length r.name.now) (length r.parent.now) (length r.begin.now) (length r.end.now) (length r.value.now) (length r.item.now) (length spares)

-- the document in their first n entries
abbrev pub front_in : ℕ → Records → List ℕ → Doc
front_in n r spares =
    columns (take n r.kind.now) (take n r.vkind.now) (take n r.name.now) (take n r.parent.now) (take n r.begin.now) (take n r.end.now) (take n r.value.now) (take n r.item.now) (take n spares)

-- the columns as the meaning has them
abbrev pub held : Records → Lent
held r = lent r.kind.now r.vkind.now r.name.now r.parent.now r.begin.now r.end.now r.value.now r.item.now
