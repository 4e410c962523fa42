-- What the test 7 is asked over: its four columns of one length, and what the record pass has shown of the records before.
use Rattle.std.specs.Prelude.{◌≡◌, List, [], ℕ, ◌<◌, ◌≤◌, length, get_or}
use Rattle.meaning.specs.Document.{Doc, columns}
use Rattle.meaning.specs.Block.{limit}
use Rattle.columns.specs.declared.Records.{Records}

-- the document in the columns that 7 reads
abbrev pub periods : List ℕ → List ℕ → List ℕ → List ℕ → Doc
periods kinds parents begins ends = columns kinds [] [] parents begins ends [] [] []

-- parents are lower, record 0 is no version, and no version ends before it begins
pub record Steady (doc : Doc) : Type 0 where
  pub lower : (i : ℕ) → 0 < i → i < doc.size → doc.parent i < i
  pub root : doc.kind 0 ≡ 2 → ⊥
  pub period : (v : ℕ) → v < doc.size → doc.kind v ≡ 2 → doc.begin v ≤ doc.end v

-- the four columns
pub record Placing (kinds parents begins ends : List ℕ) : Type 0 where
  pub few : length kinds ≤ limit
  pub parent : length parents ≡ length kinds
  pub begin : length begins ≡ length kinds
  pub end : length ends ≡ length kinds
  pub steady : Steady (periods kinds parents begins ends)

-- from version v to its item p, and on to the record in which p stands unless p is the root
pub record Way (parents begins ends : List ℕ) (v p : ℕ) : Type 0 where
  pub begin : length begins ≡ length parents
  pub end : length ends ≡ length parents
  pub here : v < length parents
  pub is : p ≡ get_or parents v 0
  pub lower : p < v
  pub over : (p ≡ 0 → ⊥) → get_or parents p 0 < p

-- the same of columns that are lent together
abbrev pub periods_in : Records → Doc
periods_in r = periods r.kind.now r.parent.now r.begin.now r.end.now

abbrev pub PlacingBy : Records → Type 0
PlacingBy r = Placing r.kind.now r.parent.now r.begin.now r.end.now

abbrev pub WayBy : Records → ℕ → ℕ → Type 0
WayBy r = Way r.parent.now r.begin.now r.end.now
