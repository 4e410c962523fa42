-- What the finder goes along: the members, which are versions that the rule reads, in the order of their begins and in that of their ends, and the places at
-- which each is present.
use Rattle.std.specs.Prelude.{◌≡◌, Bool, true, List, ℕ, ◌≤◌, ◌<◌, length}
use Rattle.meaning.specs.declared.Rule.{Rule}
use Rattle.meaning.specs.Document.{Doc, is_version}
use Rattle.meaning.specs.Select.{selected}
use Rattle.prepare.specs.Rows.{in_row}
use Rattle.passes.specs.Passes.{at}
use Rattle.places.specs.declared.Places.{Places}
use Rattle.places.specs.Placing.{Low, High}

-- the order has the members, each once, and no other record, and rises by the column
pub record Line (member : ℕ → Bool) (column order : List ℕ) : Type 0 where
  pub inside : (j : ℕ) → j < length order → member (at order j) ≡ true
  pub place : ℕ → ℕ
  pub all : (x : ℕ) → member x ≡ true → (place x < length order) × (at order (place x) ≡ x)
  pub once : (j : ℕ) → j < length order → place (at order j) ≡ j
  pub rising : (i j : ℕ) → i < j → j < length order → at column (at order i) ≤ at column (at order j)

-- the order by begin, and in lo the first place at which each member is present
pub record Begun (doc : Doc) (places : Places) (opens lo : List ℕ) : Type 0 where
  pub member : ℕ → Bool
  pub versions : (x : ℕ) → member x ≡ true → is_version doc x ≡ true
  pub by_begin : Line member lo opens
  pub room : doc.size ≤ length lo
  pub low : (x : ℕ) → member x ≡ true → Low places (doc.begin x) (at lo x)

-- the order by begin, and in lo and hi the places at which each member is present
pub record Lined (doc : Doc) (places : Places) (opens lo hi : List ℕ) : Type 0 where
  pub begun : Begun doc places opens lo
  pub hi_room : doc.size ≤ length hi
  pub high : (x : ℕ) → begun.member x ≡ true → High places (doc.end x) (at hi x)

-- every version that rule r selects is a member
abbrev pub ChosenIn : Doc → (ℕ → Bool) → Rule → Type 0
ChosenIn doc member r = (v : ℕ) → selected doc r v ≡ true → member v ≡ true

-- every one in a row of it is
abbrev pub RowsIn : Doc → (ℕ → Bool) → Rule → Type 0
RowsIn doc member r = (v f : ℕ) → in_row doc r v f ≡ true → member f ≡ true
