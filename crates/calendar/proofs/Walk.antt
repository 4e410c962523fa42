-- The walk over months that `month_on` is made of: which month it answers, and when it answers none.
-- Assumes nothing.
use mathlib.Core.Path.{◌≡◌, refl, ap, sym, ◌∙◌}
use mathlib.Core.Logic.{⊎_elim, by_cases}
use Prim.Native.Nat.{ℕ, zero, suc, ◌+◌, ◌≤◌, ◌<◌}
use native.Mathlib.Nat.{eq-or-lt_of_le}
use native.Mathlib.Decide.{ℕ_discrete}
use native.Mathlib.Omega.{arith}
use borrow.Author.Tests.{eq-eqb, ne_eqb}
use Rattle.calendar.specs.Gregorian.{month_start, month_from}
use Rattle.std.specs.Prelude.{Some, None}

-- the walk's first month starts on the day, or the walk goes on after it
walk_hit : (k n day : ℕ) → month_start k ≡ day → month_from k (suc n) day ≡ Some k
unfolding month_from
walk_hit k n day e = rw (eq-eqb (month_start k) day e)

walk_miss : (k n day : ℕ) → (month_start k ≡ day → ⊥) → month_from k (suc n) day ≡ month_from (suc k) n day
unfolding month_from
walk_miss k n day e = rw (ne_eqb (month_start k) day e)

-- the month that it answers is one of its months and starts on the day
pub walk_found : (k n day m : ℕ) → month_from k n day ≡ Some m → (m < k + n) × (month_start m ≡ day)
unfolding month_from
walk_found k zero day m e = let never : ◌≡◌ {A = ℕ} 0 1 = cc in (omega arith, omega arith)
walk_found k (suc n) day m e =
    by_cases (ℕ_discrete (month_start k) day)
    (λ q. let same : k ≡ m = cc (walk_hit k n day q) in (omega arith, ap month_start (sym same) ∙ q))
    (λ q. let later = walk_found (suc k) n day m (sym (walk_miss k n day q) ∙ e) in (omega arith, later.1))

-- where it answers none, none of its months starts on the day
pub walk_none : (k n day m : ℕ) → month_from k n day ≡ None → k ≤ m → m < k + n → month_start m ≡ day → ⊥
walk_none k zero day m e l h q = omega arith
walk_none k (suc n) day m e l h q =
    by_cases (ℕ_discrete (month_start k) day)
    (λ p. let never : ◌≡◌ {A = ℕ} 0 1 = cc (walk_hit k n day p) in omega arith)
    (λ p.
    ⊎_elim (λ same. p (rw same q))
    (λ later. walk_none (suc k) n day m (sym (walk_miss k n day p) ∙ e) later (omega arith) q)
    (eq-or-lt_of_le l))

-- and the other way: its first month that starts on the day is the answer, and where no month does it answers none
pub walk_first :
    (k n day m : ℕ) →
    k ≤ m →
    m < k + n →
    month_start m ≡ day →
    ((j : ℕ) → j < m → month_start j ≡ day → ⊥) →
    month_from k n day ≡ Some m
walk_first k zero day m l h q f = absurd (omega arith)
walk_first k (suc n) day m l h q f =
    ⊎_elim (λ same. walk_hit k n day (rw same q) ∙ ap Some same)
    (λ later. walk_miss k n day (f k later) ∙ walk_first (suc k) n day m later (omega arith) q f)
    (eq-or-lt_of_le l)

pub walk-absent :
    (k n day : ℕ) →
    ((j : ℕ) → j < k + n → month_start j ≡ day → ⊥) →
    month_from k n day ≡ None
unfolding month_from
walk-absent k zero day f = refl
walk-absent k (suc n) day f =
    walk_miss k n day (f k (omega arith)) ∙ walk-absent (suc k) n day (λ j h. f j (omega arith))
