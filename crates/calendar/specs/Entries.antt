-- What the table of month starts must hold.
-- Assumes nothing: this is a definition.
use Rattle.std.specs.Prelude.{◌≡◌, List, ℕ, ◌≤◌, get_or}
use Rattle.calendar.specs.Gregorian.{month_day}

-- entry k is the day on which month k starts, for each month up to number 1,200
unfoldable pub MonthTable : List ℕ → Type 0
MonthTable table = (k : ℕ) → k ≤ 1200 → get_or table k 0 ≡ month_day k
