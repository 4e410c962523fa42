-- A rule posed over the columns of a document, and the column of only values against which it compares.
use Rattle.std.specs.Prelude.{◌≡◌, Bool, List, ℕ, ◌≤◌, ℤ, length}
use Rattle.meaning.specs.declared.Rule.{Rule}
use Rattle.meaning.specs.Document.{Doc}
use Rattle.columns.specs.declared.Records.{Records}
use Rattle.literal.specs.declared.offence.Asked.{Asked}
use Rattle.literal.specs.Laid.{Rooms, Laid, Valued}
use Rattle.literal.specs.Only.{Only, Inside}

-- a key or a unique rule r compares with the only values of r itself, a reference with those of the rule q referred to
pub record Compares (doc : Doc) (p : ℕ → Bool) (q r : Rule) (only : List ℕ) : Type 0 where
  pub own : r.kind ≤ 2 → Only doc p r only
  pub referred : r.kind ≡ 3 → Only doc p q only

-- what judging by a rule of kind k asks of the columns
pub record Ready (k : ℕ) (kinds vkinds names parents : List ℕ) (values : List ℤ) (presents only : List ℕ) : Type 0 where
  pub rooms : Rooms kinds vkinds names parents presents
  pub vkind : length vkinds ≡ length kinds
  pub value : length kinds ≤ length values
  pub inside : k ≤ 3 → Inside (length kinds) only

-- what the columns hold
pub record Posed (doc : Doc) (p : ℕ → Bool) (q r : Rule) (kinds vkinds names parents : List ℕ) (values : List ℤ) (presents only : List ℕ) : Type 0 where
  pub laid : Laid doc p kinds vkinds names parents presents
  pub valued : Valued doc vkinds values
  pub compares : Compares doc p q r only

-- the same of columns that are lent together, and of a rule as it is asked on a day
abbrev pub ReadyFor : Records → Asked → Type 0
ReadyFor t a = Ready a.rule.kind t.kind.now t.vkind.now t.name.now t.parent.now t.value.now a.present.now a.only.now

abbrev pub PosedFor : Doc → (ℕ → Bool) → Rule → Records → Asked → Type 0
PosedFor doc p q t a = Posed doc p q a.rule t.kind.now t.vkind.now t.name.now t.parent.now t.value.now a.present.now a.only.now
