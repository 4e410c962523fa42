-- The step rule of a table of month starts: a test that goes through the entries once, and what a table that passes it holds at each entry.
-- Assumes nothing.
use mathlib.Core.Path.{◌≡◌, ap, sym, ◌∙◌}
use mathlib.Core.Bool.{Bool, true, ◌&&◌, and-eq-true_iff}
use mathlib.Core.List.{List, [], ◌∷◌}
use Prim.Native.Nat.{ℕ, zero, suc, ◌+◌, ◌<◌}
use native.Mathlib.Nat.{add-zero, zero-add, add-suc, suc-add, le_of_suc-le-suc, not-suc-le-zero}
use native.Mathlib.Omega.{arith}
use borrow.Author.Tests.{eqb-true}
use lib.Dec.{eqb}
use lib.ListN.{length, get_or}
use Rattle.calendar.specs.Gregorian.{month_length, month_day}
use Rattle.calendar.specs.Entries.{MonthTable}

-- the first entry is the day, that of month k, and each next one is later by a month's length
unfoldable pub steps : ℕ → ℕ → List ℕ → Bool
steps day k [] = true
steps day k (x ∷ xs) = eqb x day && steps (day + month_length k) (suc k) xs

-- one step of the test, at month k's own day
step :
    (k x : ℕ) (xs : List ℕ) →
    steps (month_day k) k (x ∷ xs) ≡ true →
    (x ≡ month_day k) × (steps (month_day (suc k)) (suc k) xs ≡ true)
unfolding steps month_day
step k x xs t =
    let both = (and-eq-true_iff (eqb x (month_day k)) (steps (month_day (suc k)) (suc k) xs)).0 t in
    (eqb-true x (month_day k) both.0, both.1)

steps-at : (k : ℕ) (xs : List ℕ) → steps (month_day k) k xs ≡ true → (i : ℕ) → i < length xs → get_or xs i 0 ≡ month_day (k + i)
steps-at k [] t i h = absurd (not-suc-le-zero h)
steps-at k (x ∷ xs) t zero h = (step k x xs t).0 ∙ ap month_day (sym (add-zero k))
steps-at k (x ∷ xs) t (suc i) h =
    steps-at (suc k) xs (step k x xs t).1 i (le_of_suc-le-suc h) ∙ ap month_day (suc-add k i ∙ sym (add-suc k i))

-- a table of 1,201 entries that passes from day 0 and month 0 on holds what it must
pub table-right : (xs : List ℕ) → steps 0 0 xs ≡ true → length xs ≡ 1201 → MonthTable xs
unfolding month_day MonthTable
table-right xs t n k h = steps-at 0 xs t k (omega arith) ∙ ap month_day (zero-add k)
