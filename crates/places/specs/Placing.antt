-- The places of a rule: each is a stretch of days, a day of a sequenced rule or a window of another; from which place on, and up to which, a version is present.
use Rattle.std.specs.Prelude.{◌≡◌, Bool, true, false, cond, ℕ, ◌+◌, ◌-◌, ◌*◌, ◌≤◌, ◌<◌, Some}
use Rattle.calendar.specs.Gregorian.{month_day, month_start, month_on}
use Rattle.meaning.specs.declared.Rule.{Rule}
use Rattle.meaning.specs.Window.{Window, least}
use Rattle.places.specs.declared.Places.{Places}

-- the day of unit u: the start of month u, or day u itself
abbrev pub unit_day : Bool → ℕ → ℕ
unit_day monthly u = cond monthly (month_start u) u

-- the same by the calendar alone, past the end of the table of months too
abbrev pub calendar_day : Bool → ℕ → ℕ
calendar_day monthly u = cond monthly (month_day u) u

-- the first day of place k, and the day past its last
unfoldable pub start_of : Places → ℕ → ℕ
start_of at k = unit_day at.monthly (at.first + k * at.slide)

unfoldable pub end_of : Places → ℕ → ℕ
end_of at k = least (unit_day at.monthly (at.first + k * at.slide + at.span)) at.close

-- where place k would end by its length alone
unfoldable pub natural_of : Places → ℕ → ℕ
natural_of at k = calendar_day at.monthly (at.first + k * at.slide + at.span)

-- place k as a window
abbrev pub window_at : Places → ℕ → Window
window_at at k = record { from = start_of at k; to = end_of at k; natural = natural_of at k }

-- the numbers stay small, there are as many places as start before the close, and as many of them are whole as end by it of themselves: those
-- come first, and all others are shortened
pub record Counted (at : Places) : Type 0 where
  pub first_most : at.first ≤ 36525
  pub span_least : 1 ≤ at.span
  pub span_most : at.span ≤ 36525
  pub slide_least : 1 ≤ at.slide
  pub slide_most : at.slide ≤ 36525
  pub close_most : at.close ≤ 36525
  pub count_most : at.count ≤ 36525
  pub inside : (k : ℕ) → k < at.count → start_of at k < at.close
  pub over : (k : ℕ) → at.count ≤ k → at.close ≤ start_of at k
  pub whole_most : at.whole ≤ at.count
  pub ended : (k : ℕ) → k < at.whole → natural_of at k ≤ at.close
  pub shortened : (k : ℕ) → k < at.count → at.whole ≤ k → at.close < natural_of at k

-- by the rule: a sequenced one has the days of its period; another, by its unit, the whole period, windows of days, or windows of months
pub data Placed (r : Rule) (at : Places) : Type 0 where
  on-days : r.windowed ≡ 0 → at.monthly ≡ false → at.first ≡ r.begin → at.span ≡ 1 → at.slide ≡ 1 → at.close ≡ r.end → Placed r at
  whole_period : (r.windowed ≡ 0 → ⊥) → r.unit ≡ 0 → at.monthly ≡ false → at.first ≡ r.begin → at.span ≡ r.end - r.begin → at.slide ≡ r.end - r.begin → at.close ≡ r.end → Placed r at
  in_days : (r.windowed ≡ 0 → ⊥) → r.unit ≡ 1 → at.monthly ≡ false → at.first ≡ r.begin → at.span ≡ r.span → at.slide ≡ r.slide → at.close ≡ r.end → Placed r at
  in_months : (r.windowed ≡ 0 → ⊥) → r.unit ≡ 2 → at.monthly ≡ true → month_on r.begin ≡ Some at.first → at.span ≡ r.span → at.slide ≡ r.slide → at.close ≡ r.end → Placed r at

-- l is the first place that ends after day b, on which a version begins
pub record Low (at : Places) (b l : ℕ) : Type 0 where
  pub most : l ≤ at.count
  pub before : (k : ℕ) → k < l → end_of at k ≤ b
  pub from : (k : ℕ) → k < at.count → l ≤ k → b < end_of at k

-- h is the first place that starts on day e, on which a version ends, or later
pub record High (at : Places) (e h : ℕ) : Type 0 where
  pub most : h ≤ at.count
  pub within : (k : ℕ) → k < h → start_of at k < e
  pub past : (k : ℕ) → k < at.count → h ≤ k → e ≤ start_of at k
