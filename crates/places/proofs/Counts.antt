-- Numbers a slide apart: how many lie below one, by a division; and how many units a slide apart start before a day.
use mathlib.Core.Logic.{◌↔◌}
use mathlib.Core.Bool.{Bool}
use Prim.Native.Nat.{ℕ, ◌+◌, ◌-◌, ◌*◌, ◌/◌, ◌≤◌, ◌<◌}
use native.Mathlib.Nat.{le-div_iff_mul-le, div-le_self}
use native.Mathlib.Omega.{arith}
use Rattle.places.specs.Earlier.{Before, Steps, Starting, By, Ending}

-- THE DIVISION: k of a slide s fit into x exactly when k is no more than x / s
pub fitting : (k x s : ℕ) → 1 ≤ s → (k < x / s + 1) ↔ (k * s ≤ x)
fitting k x s h =
    let e = le-div_iff_mul-le {k = s} {x = k} {y = x} (omega arith) in
    (λ l. e.0 (omega arith), λ l. omega (arith, e.1 l))

pub steps-none : (from slide u : ℕ) → u ≤ from → Steps from slide u 0
steps-none from slide u h = record { most = omega arith; within = λ k l. absurd (omega arith); past = λ k l. omega arith }

pub steps-some : (from slide u : ℕ) → 1 ≤ slide → from < u → Steps from slide u ((u - from - 1) / slide + 1)
steps-some from slide u one h =
    record {
      most = omega (arith, div-le_self (u - from - 1) slide);
      within = λ k l. omega (arith, (fitting k (u - from - 1) slide one).0 l);
      past = λ k l.
          let not-fit : k * slide ≤ u - from - 1 → ⊥ = λ m. omega (arith, (fitting k (u - from - 1) slide one).1 m) in
          omega arith;
    }

-- units a slide apart start before a day as their numbers lie below that of the units that do
pub starting_by : {monthly : Bool} {from slide day u n : ℕ} → Before monthly day u → Steps from slide u n → Starting monthly from slide day n
starting_by {from = from} {slide = slide} b s =
    record {
      most = omega (arith, b.most, s.most);
      within = λ k h. b.within (from + k * slide) (s.within k h);
      past = λ k h. b.past (from + k * slide) (s.past k h);
    }

-- and by a day as their numbers lie below that of the units that start by it
pub ending_by : {monthly : Bool} {from slide day u n : ℕ} → By monthly day u → Steps from slide u n → Ending monthly from slide day n
ending_by {from = from} {slide = slide} b s =
    record {
      within = λ k h. b.within (from + k * slide) (s.within k h);
      past = λ k h. b.past (from + k * slide) (s.past k h);
    }
