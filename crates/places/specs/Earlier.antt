-- How many units start before a day, or by it; how many numbers a slide apart lie below one; and how many units a slide apart start before a day, or by it.
use Rattle.std.specs.Prelude.{Bool, ℕ, ◌+◌, ◌*◌, ◌≤◌, ◌<◌}
use Rattle.places.specs.Placing.{unit_day, calendar_day}

-- the units below u start before the day, and no others
pub record Before (monthly : Bool) (day u : ℕ) : Type 0 where
  pub most : u ≤ 36525
  pub within : (j : ℕ) → j < u → unit_day monthly j < day
  pub past : (j : ℕ) → u ≤ j → day ≤ unit_day monthly j

-- of the numbers from `from` on, each a slide after the one before, the first n lie below u, and no others
pub record Steps (from slide u n : ℕ) : Type 0 where
  pub most : n ≤ u
  pub within : (k : ℕ) → k < n → from + k * slide < u
  pub past : (k : ℕ) → n ≤ k → u ≤ from + k * slide

-- of the units from `from` on, each a slide after the one before, the first n start before the day, and no others
pub record Starting (monthly : Bool) (from slide day n : ℕ) : Type 0 where
  pub most : n ≤ 36525
  pub within : (k : ℕ) → k < n → unit_day monthly (from + k * slide) < day
  pub past : (k : ℕ) → n ≤ k → day ≤ unit_day monthly (from + k * slide)

-- the units below u start by the day, and no others, by the calendar
pub record By (monthly : Bool) (day u : ℕ) : Type 0 where
  pub within : (j : ℕ) → j < u → calendar_day monthly j ≤ day
  pub past : (j : ℕ) → u ≤ j → day < calendar_day monthly j

-- of the units from `from` on, each a slide after the one before, the first n start by the day, and no others, by the calendar
pub record Ending (monthly : Bool) (from slide day n : ℕ) : Type 0 where
  pub within : (k : ℕ) → k < n → calendar_day monthly (from + k * slide) ≤ day
  pub past : (k : ℕ) → n ≤ k → day < calendar_day monthly (from + k * slide)
