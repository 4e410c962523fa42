-- The days of units: they rise, and how many start before a day; and the lesser of two days.
use mathlib.Core.Path.{◌≡◌, sym, ap, ◌∙◌}
use mathlib.Core.Logic.{⊎_elim}
use mathlib.Core.Bool.{Bool, true, false}
use Prim.Native.Nat.{ℕ, ◌+◌, ◌≤◌, ◌<◌, min}
use native.Mathlib.Omega.{arith}
use borrow.Author.Tests.{le-leb, lt-leb}
use Rattle.calendar.specs.Gregorian.{month_start, month_day}
use Rattle.calendar.proofs.Months.{start_rises, start_past, start_in, month_ascends}
use Rattle.meaning.specs.Window.{least}
use Rattle.meaning.proofs.Basics.{le_or_lt}
use Rattle.places.specs.Placing.{unit_day}
use Rattle.places.specs.Earlier.{Before, By}

-- the day of a unit, by what was looked up
pub day-month : (monthly : Bool) (u x : ℕ) → monthly ≡ true → x ≡ month_start u → x ≡ unit_day monthly u
day-month monthly u x e p = rw e p

pub day-itself : (monthly : Bool) (u : ℕ) → monthly ≡ false → unit_day monthly u ≡ u
day-itself monthly u e = rw e

-- a later unit starts no earlier
pub days_rise : (monthly : Bool) (i j : ℕ) → i ≤ j → unit_day monthly i ≤ unit_day monthly j
days_rise true i j h = start_rises i j h
days_rise false i j h = h

-- the lesser of two days
pub least-left : (a b : ℕ) → a ≤ b → least a b ≡ a
least-left a b h = rw (le-leb a b h)

pub least-right : (a b : ℕ) → b < a → least a b ≡ b
least-right a b h = rw (lt-leb a b h)

-- it is the minimum
pub least_min : (a b : ℕ) → min a b ≡ least a b
least_min a b = ⊎_elim (λ h. omega (arith, least-left a b h)) (λ h. omega (arith, least-right a b h)) (le_or_lt a b)

-- the end of a place, clipped
pub clipped : (a b x y : ℕ) → x ≡ a → y ≡ min x b → y ≡ least a b
clipped a b x y e p = rw (sym e) (p ∙ least_min x b)

pub least-most : (a b : ℕ) → least a b ≤ b
least-most a b = ⊎_elim (λ h. omega (arith, least-left a b h)) (λ h. omega (arith, least-right a b h)) (le_or_lt a b)

pub least_first : (a b : ℕ) → least a b ≤ a
least_first a b = ⊎_elim (λ h. omega (arith, least-left a b h)) (λ h. omega (arith, least-right a b h)) (le_or_lt a b)

-- below it is what is below both
pub least_above : (a b x : ℕ) → x < a → x < b → x < least a b
least_above a b x h l = ⊎_elim (λ m. omega (arith, least-left a b m)) (λ m. omega (arith, least-right a b m)) (le_or_lt a b)

-- as many days start before a day as it counts
pub days_before : {monthly : Bool} {day : ℕ} → monthly ≡ false → day ≤ 36525 → Before monthly day day
days_before {day = day} e most = rw e (record { most = most; within = λ j h. h; past = λ j h. h })

-- months that start before a day: all up to one that does
pub months_up_to : (day m : ℕ) → month_start m < day → (j : ℕ) → j ≤ m → month_start j < day
months_up_to day m h j l = omega (arith, start_rises j m l)

-- and no others where the next one does not, or is past the table
pub months_all : (day m : ℕ) → m ≤ 1200 → ((j : ℕ) → j < m → month_start j < day) → day ≤ month_start m → Before true day m
months_all day m most some h =
    record { most = omega arith; within = some; past = λ j l. omega (arith, start_rises m j l) }

pub months_end : (day m : ℕ) → day ≤ 36525 → m ≡ 1200 → ((j : ℕ) → j < m → month_start j < day) → Before true day m
months_end day m most e some = months_all day m (omega arith) some (omega (arith, start_past m (omega arith)))

-- by the calendar a later month starts no earlier, past the table too
months_on : (i j : ℕ) → i ≤ j → month_day i ≤ month_day j
months_on i j h = ⊎_elim (λ l. let e : i ≡ j = omega arith in omega (arith, ap month_day e)) (λ l. omega (arith, month_ascends i j l)) (le_or_lt j i)

-- days that start by a day: one more than it counts
pub days_by : {monthly : Bool} {day : ℕ} → monthly ≡ false → By monthly day (day + 1)
days_by {day = day} e = rw e (record { within = λ j h. omega arith; past = λ j h. omega arith })

-- what of the months that start before a day is used: there are no more than the table has
module _ (day m : ℕ) (most : day ≤ 36525) (b : Before true day m) where
  pub months_few : m ≤ 1200
  months_few = ⊎_elim (λ h. h) (λ h. absurd (omega (arith, b.within 1200 h, start_past 1200 (omega arith)))) (le_or_lt m 1200)

  months_within : (j : ℕ) → j < m → month_day j ≤ day
  months_within j h = omega (arith, b.within j h, start_in j (omega (arith, months_few)))

  -- the next month starts on the day: it too, and no other
  pub months_by_one : month_start m ≡ day → By true day (m + 1)
  months_by_one e =
      let here : month_day m ≡ day = omega (arith, start_in m months_few) in
      record {
        within = λ j h. ⊎_elim (λ l. omega (arith, months_on j m (omega arith))) (λ l. months_within j l) (le_or_lt m j);
        past = λ j h. omega (arith, month_ascends m j (omega arith));
      }

  -- or later: none
  pub months_by_none : (month_start m ≡ day → ⊥) → By true day m
  months_by_none n =
      let here : day ≤ month_day m = omega (arith, start_in m months_few, b.past m (omega arith)) in
      let apart : month_day m ≡ day → ⊥ = λ e. n (omega (arith, start_in m months_few)) in
      record { within = months_within; past = λ j h. omega (arith, months_on m j h) }
