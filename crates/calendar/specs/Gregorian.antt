-- The Gregorian calendar, months and days counted from 1 January 2000 (MEANING 1): the months' lengths, their starts, and which month starts on a day.
-- Assumes nothing: these are definitions, and each computes.
use Rattle.std.specs.Prelude.{Bool, not, ◌&&◌, ◌||◌, cond, List, [], ◌∷◌, ℕ, zero, suc, ◌+◌, ◌/◌, ◌%◌, eqb, leb, get_or, Option, Some, None}

-- a leap year: one that 4 divides and 100 does not, or that 400 divides
unfoldable pub leap : ℕ → Bool
leap year = (eqb (year % 4) 0 && not (eqb (year % 100) 0)) || eqb (year % 400) 0

-- the days of the twelve months, January first, of a leap year or of a common one
unfoldable pub year_lengths : Bool → List ℕ
year_lengths leaps = 31 ∷ cond leaps 29 28 ∷ 31 ∷ 30 ∷ 31 ∷ 30 ∷ 31 ∷ 31 ∷ 30 ∷ 31 ∷ 30 ∷ 31 ∷ []

-- the days of month k: it is month k % 12, from 0, of the year 2000 + k / 12
unfoldable pub month_length : ℕ → ℕ
unfolding leap year_lengths
month_length k = get_or (year_lengths (leap (2000 + k / 12))) (k % 12) 0

-- the day on which month k starts: the start of the month before it, and that month's days
unfoldable pub month_day : ℕ → ℕ
month_day zero = 0
month_day (suc k) = month_day k + month_length k

-- entry k of the table of month starts, whose last entry is 1,200: past it, that one
unfoldable pub month_start : ℕ → ℕ
month_start k = month_day (cond (leb k 1200) k 1200)

-- the lowest of the n months from number k on that starts on the day
unfoldable pub month_from : ℕ → ℕ → ℕ → Option ℕ
month_from k zero day = None
month_from k (suc n) day = let rest = month_from (suc k) n day in cond (eqb (month_start k) day) (Some k) rest

-- the month among numbers 0 to 1,200 that starts on the day
unfoldable pub month_on : ℕ → Option ℕ
month_on day = month_from 0 1201 day
