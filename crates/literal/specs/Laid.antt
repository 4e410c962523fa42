-- What the columns of a document and the marks of a day are to one another: what is asked of them, and what they then hold.
use Rattle.std.specs.Prelude.{Bool, List, ℕ, ◌≤◌, ℤ, pos, length}
use Rattle.meaning.specs.Document.{Doc}
use Rattle.columns.specs.Judgeable.{Judgeable}
use Rattle.columns.specs.Lent.{Lends, Tree}
use Rattle.columns.specs.declared.Records.{Records}
use Rattle.marks.specs.Marks.{Marks}

-- some document that can be judged lies in these columns
pub record Lies (kinds names parents : List ℕ) : Type 0 where
  pub doc : Doc
  pub tree : Tree doc kinds names parents
  pub judgeable : Judgeable doc

-- and two more columns are as long
pub record Rooms (kinds vkinds names parents presents : List ℕ) : Type 0 where
  pub lies : Lies kinds names parents
  pub vkind : length kinds ≤ length vkinds
  pub present : length kinds ≤ length presents

-- the tree of a document, the kinds of its values, and marks on the versions that pass p, those present
pub record Laid (doc : Doc) (p : ℕ → Bool) (kinds vkinds names parents presents : List ℕ) : Type 0 where
  pub tree : Tree doc kinds names parents
  pub vkind : Lends doc.size doc.vkind 0 vkinds
  pub present : Marks p doc.size presents

-- the values of a document and their kinds
pub record Valued (doc : Doc) (vkinds : List ℕ) (values : List ℤ) : Type 0 where
  pub vkind : Lends doc.size doc.vkind 0 vkinds
  pub value : Lends doc.size doc.value (pos 0) values

-- the same of columns that are lent together
abbrev pub LiesIn : Records → Type 0
LiesIn r = Lies r.kind.now r.name.now r.parent.now

abbrev pub RoomsIn : Records → List ℕ → Type 0
RoomsIn r presents = Rooms r.kind.now r.vkind.now r.name.now r.parent.now presents

abbrev pub LaidIn : Doc → (ℕ → Bool) → Records → List ℕ → Type 0
LaidIn doc p r presents = Laid doc p r.kind.now r.vkind.now r.name.now r.parent.now presents

abbrev pub ValuedBy : Doc → Records → Type 0
ValuedBy doc r = Valued doc r.vkind.now r.value.now
