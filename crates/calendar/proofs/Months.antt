-- Laws of the calendar for any crate: the month starts ascend, the table keeps to the rule up to entry 1,200, and what `month_on` answers.
-- Assumes nothing.
use mathlib.Core.Path.{◌≡◌, refl, ap}
use mathlib.Core.Logic.{⊎_elim, by_cases}
use mathlib.Core.Bool.{Bool, true, false}
use mathlib.Core.List.{List, [], ◌∷◌, map}
use Prim.Native.Nat.{ℕ, zero, suc, ◌+◌, ◌*◌, ◌/◌, ◌%◌, ◌≤◌, ◌<◌, min}
use native.Mathlib.Nat.{min-eq_left, min-eq_right, eq-or-lt_of_le, le_of_suc-le-suc, not-suc-le-zero}
use native.Mathlib.Decide.{dec_le}
use native.Mathlib.Omega.{arith}
use borrow.Author.Tests.{le-leb, lt-leb}
use lib.ListN.{length, get_or}
use Rattle.calendar.specs.Gregorian.{leap, year_lengths, month_length, month_day, month_start, month_on}
use Rattle.std.specs.Prelude.{Some, None}
use Rattle.calendar.proofs.Walk.{walk_found, walk_none, walk_first, walk-absent}

-- each number of the list is from 1 to 31
abbrev Fair : List ℕ → Type 0
Fair [] = Unit
Fair (x ∷ xs) = (1 ≤ x) × (x ≤ 31) × Fair xs

fair-at : (xs : List ℕ) → Fair xs → (i : ℕ) → i < length xs → (1 ≤ get_or xs i 0) × (get_or xs i 0 ≤ 31)
fair-at [] f i h = absurd (not-suc-le-zero h)
fair-at (x ∷ xs) f zero h = (f.0, f.1)
fair-at (x ∷ xs) f (suc i) h = fair-at xs f.2 i (le_of_suc-le-suc h)

fair-year : (leaps : Bool) → Fair (year_lengths leaps)
unfolding year_lengths
fair-year true = omega arith
fair-year false = omega arith

-- a month has from 1 to 31 days
pub length_fair : (k : ℕ) → (1 ≤ month_length k) × (month_length k ≤ 31)
unfolding month_length
length_fair k =
    let leaps = leap (2000 + k / 12) in
    fair-at (year_lengths leaps) (fair-year leaps) (k % 12) (omega arith)

-- a later month starts on a later day
pub month_ascends : (j k : ℕ) → j < k → month_day j < month_day k
unfolding month_day
month_ascends j zero h = absurd (not-suc-le-zero h)
month_ascends j (suc k) h =
    let next : month_day k < month_day k + month_length k = omega (arith, length_fair k) in
    ⊎_elim (λ e. rw e next) (λ l. omega (arith, month_ascends j k l)) (eq-or-lt_of_le (le_of_suc-le-suc h))

-- month k starts within 31 days for each month before it
pub month_early : (k : ℕ) → month_day k ≤ 31 * k
unfolding month_day
month_early zero = omega arith
month_early (suc k) = omega (arith, month_early k, length_fair k)

-- up to entry 1,200 the table has the day of the rule
pub start_in : (k : ℕ) → k ≤ 1200 → month_start k ≡ month_day k
unfolding month_start
start_in k h = rw (le-leb k 1200 h)

-- from there on it has that of entry 1,200
pub start_last : (k : ℕ) → 1200 ≤ k → month_start k ≡ month_day 1200
unfolding month_start
start_last k h = ⊎_elim (λ e. rw (← e)) (λ l. rw (lt-leb k 1200 l)) (eq-or-lt_of_le h)

-- so its day is that of the lesser of the two
pub start_least : (k : ℕ) → month_start k ≡ month_day (min k 1200)
start_least k =
    by_cases (dec_le k 1200) (λ m. rw (min-eq_left m) (start_in k m))
    (λ m. let l : 1200 ≤ k = omega arith in rw (min-eq_right l) (start_last k l))

-- from entry 1,200 on it is day 36,525
pub start_past : (k : ℕ) → 1200 ≤ k → month_start k ≡ 36525
unfolding month_day month_length
start_past k h = start_last k h

-- an entry below 1,200 is less than any later one
pub start_ascends : (j k : ℕ) → j < k → j < 1200 → month_start j < month_start k
start_ascends j k h l =
    let low = start_in j (omega arith) in
    by_cases (dec_le k 1200) (λ m. omega (arith, low, start_in k m, month_ascends j k h))
    (λ m. omega (arith, low, start_last k (omega arith), month_ascends j 1200 l))

-- and no entry is more than a later one
pub start_rises : (j k : ℕ) → j ≤ k → month_start j ≤ month_start k
start_rises j k h =
    by_cases (dec_le 1200 j) (λ m. omega (arith, start_last j m, start_last k (omega arith)))
    (λ m. ⊎_elim (λ e. omega (arith, ap month_start e)) (λ l. omega (arith, start_ascends j k l (omega arith))) (eq-or-lt_of_le h))

-- entry k is at most 31 k
pub start_early : (k : ℕ) → month_start k ≤ 31 * k
start_early k =
    by_cases (dec_le k 1200) (λ m. omega (arith, start_in k m, month_early k))
    (λ m. omega (arith, start_last k (omega arith), month_early 1200))

-- the month that is answered is one of the table's and starts on the day
pub month_on-found : (day k : ℕ) → month_on day ≡ Some k → (k ≤ 1200) × (month_start k ≡ day)
unfolding month_on
month_on-found day k e = let found = walk_found 0 1201 day k e in (omega arith, found.1)

-- where none is answered, none of the table's months starts on the day
pub month_on-none : (day : ℕ) → month_on day ≡ None → (k : ℕ) → k ≤ 1200 → month_start k ≡ day → ⊥
unfolding month_on
month_on-none day e k h q = walk_none 0 1201 day k e (omega arith) (omega arith) q

-- the other way round: a month of the table is answered for the day on which it starts
pub month_on-start : (day k : ℕ) → k ≤ 1200 → month_start k ≡ day → month_on day ≡ Some k
unfolding month_on
month_on-start day k h q =
    walk_first 0 1201 day k (omega arith) (omega arith) q (λ j l e. omega (arith, start_ascends j k l (omega arith)))

-- and none where no month of the table starts on the day
pub month_on-absent : (day : ℕ) → ((k : ℕ) → k ≤ 1200 → month_start k ≡ day → ⊥) → month_on day ≡ None
unfolding month_on
month_on-absent day none = walk-absent 0 1201 day (λ k h. none k (omega arith))

-- entries 0, 1, 2, 3, 12 and 1,200, computed
pub examples : map month_start (0 ∷ 1 ∷ 2 ∷ 3 ∷ 12 ∷ 1200 ∷ []) ≡ 0 ∷ 31 ∷ 60 ∷ 91 ∷ 366 ∷ 36525 ∷ []
unfolding month_start month_day month_length
examples = refl
