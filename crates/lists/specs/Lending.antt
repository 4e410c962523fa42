-- What the two lists ask for: marking the versions of a day, columns of kinds and periods of one length and a mark for each record; change days, five columns of a document,
-- and then its versions in two orders.
use Rattle.std.specs.Prelude.{◌≡◌, List, ℕ, ◌-◌, ◌≤◌, length, take}
use Rattle.meaning.specs.Document.{Doc, is_version}
use Rattle.columns.specs.Lent.{Tree, Periods}
use Rattle.columns.specs.Judgeable.{Judgeable}
use Rattle.columns.specs.declared.Records.{Records}
use Rattle.orders.specs.Order.{InOrder}

pub record Living (kinds begins ends : List ℕ) (room : ℕ) : Type 0 where
  pub begin : length begins ≡ length kinds
  pub end : length ends ≡ length kinds
  pub fits : length kinds ≤ room

-- the same of columns that are lent together
abbrev pub LivingIn : Records → ℕ → Type 0
LivingIn r room = Living r.kind.now r.begin.now r.end.now room

-- the first n entries of five columns hold a document that can be judged
pub record Turnable (n : ℕ) (kinds names parents begins ends : List ℕ) : Type 0 where
  pub kind : n ≤ length kinds
  pub name : n ≤ length names
  pub parent : n ≤ length parents
  pub begin : n ≤ length begins
  pub end : n ≤ length ends
  pub doc : Doc
  pub tree : Tree doc (take (n - 0) kinds) (take (n - 0) names) (take (n - 0) parents)
  pub periods : Periods doc (take (n - 0) begins) (take (n - 0) ends)
  pub judgeable : Judgeable doc

-- the same of columns that are lent together
abbrev pub TurnableIn : ℕ → Records → Type 0
TurnableIn n r = Turnable n r.kind.now r.name.now r.parent.now r.begin.now r.end.now

-- what the first n entries of these hold of a document
abbrev pub TreeFront : Doc → ℕ → Records → Type 0
TreeFront doc n r = Tree doc (take (n - 0) r.kind.now) (take (n - 0) r.name.now) (take (n - 0) r.parent.now)

abbrev pub PeriodsFront : Doc → ℕ → Records → Type 0
PeriodsFront doc n r = Periods doc (take (n - 0) r.begin.now) (take (n - 0) r.end.now)

-- the periods of a document, and its versions by their begins and by their ends, so many of each
pub record Along (doc : Doc) (begins ends opens : List ℕ) (opened : ℕ) (closes : List ℕ) (closed : ℕ) : Type 0 where
  pub periods : Periods doc begins ends
  pub by_begin : InOrder (is_version doc) begins opens opened
  pub by_end : InOrder (is_version doc) ends closes closed
