-- The two record tables of 01 said plainly, each record by itself: parents, referred rules and must-be-zero bytes stand in `Sound`.
use mathlib.Core.Path.{◌≡◌}
use mathlib.Core.Logic.{◌⊎◌}
use Prim.Native.Nat.{ℕ, ◌≤◌, ◌<◌}
use lib.IntN.{pos}
use lib.Signed.{◌≤ℤ◌}
use lib.ListN.{get_or}
use Rattle.std.specs.Prelude.{Some}
use Rattle.calendar.specs.Gregorian.{month_on}
use Rattle.meaning.specs.declared.Node.{Node}
use Rattle.meaning.specs.declared.Rule.{Rule}

-- the column of an item
pub record ItemRow (n : Node) : Type 0 where
  pub kind : n.kind ≡ 1
  pub vkind : n.vkind ≡ 0
  pub named : 1 ≤ n.name
  pub name_most : n.name ≤ 65534
  pub begin : n.begin ≡ 0
  pub end : n.end ≡ 0
  pub value : n.value ≡ pos 0
  pub item : 1 ≤ n.item

-- the column of a version
pub record VersionRow (n : Node) : Type 0 where
  pub kind : n.kind ≡ 2
  pub vkind : n.vkind ≤ 3
  pub name : n.name ≡ 0
  pub period : n.begin < n.end
  pub period_end : n.end ≤ 36525
  pub no_value : n.vkind ≡ 0 → n.value ≡ pos 0
  pub text : n.vkind ≡ 2 → pos 0 ≤ℤ n.value
  pub nil : n.vkind ≡ 3 → n.value ≡ pos 0
  pub item : n.item ≡ 0

-- a path of 1 to 8 names, in the first places and in no others
pub record PathRow (r : Rule) : Type 0 where
  pub steps : 1 ≤ r.steps
  pub steps_most : r.steps ≤ 8
  pub used : (k : ℕ) → k < r.steps → 1 ≤ get_or r.path k 0
  pub unused : (k : ℕ) → r.steps ≤ k → k < 8 → get_or r.path k 0 ≡ 0

-- min and max: in order, both 0 for kinds 1 to 3, not below 0 for a cardinality
pub record BoundsRow (r : Rule) : Type 0 where
  pub order : r.low ≤ℤ r.high
  pub none : r.kind ≤ 3 → (r.low ≡ pos 0) × (r.high ≡ pos 0)
  pub low : r.kind ≡ 4 → pos 0 ≤ℤ r.low

-- both numbers of a window lie in 1..most
pub record Lengths (r : Rule) (most : ℕ) : Type 0 where
  pub span : 1 ≤ r.span
  pub span_most : r.span ≤ most
  pub slide : 1 ≤ r.slide
  pub slide_most : r.slide ≤ most

-- by the unit: the whole period, days, or months from a month start on; only a non-sequenced rule has the last two
pub data WindowRow (r : Rule) : Type 0 where
  whole_period : r.unit ≡ 0 → r.span ≡ 0 → r.slide ≡ 0 → WindowRow r
  in_days : r.unit ≡ 1 → r.windowed ≡ 1 → Lengths r 36525 → WindowRow r
  in_months : r.unit ≡ 2 → r.windowed ≡ 1 → Lengths r 1200 → (k : ℕ) → month_on r.begin ≡ Some k → WindowRow r

-- a row of the rule table
pub record RuleRow (r : Rule) : Type 0 where
  pub kind : 1 ≤ r.kind
  pub kind_most : r.kind ≤ 5
  pub windowed : r.windowed ≤ 1
  pub path : PathRow r
  pub distinct : (r.distinct ≡ 0) ⊎ ((r.distinct ≡ 1) × (r.windowed ≡ 1) × (r.kind ≡ 4))
  pub field : r.kind ≡ 4 → 1 ≤ r.field
  pub field_most : r.field ≤ 65534
  pub referred : (r.kind ≡ 3 → ⊥) → r.referred ≡ 65535
  pub bounds : BoundsRow r
  pub period : r.begin < r.end
  pub period_end : r.end ≤ 36525
  pub window : WindowRow r
