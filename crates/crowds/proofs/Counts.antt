-- Counts of two tests over the same numbers, compared.
use mathlib.Core.Path.{◌≡◌, refl, ◌∙◌, ap}
use mathlib.Core.Logic.{⊎_elim}
use mathlib.Core.Bool.{Bool, true, false, ◌||◌, cond, false≢true}
use Prim.Native.Nat.{ℕ, zero, suc, ◌+◌, ◌≤◌, ◌<◌}
use native.Mathlib.Omega.{arith}
use native.Mathlib.Nat.{eq-or-lt_of_le}
use lib.Dec.{eqb}
use borrow.Author.Tests.{eqb-false}
use Rattle.meaning.specs.Walk.{count}
use Rattle.meaning.proofs.Basics.{went, or_l, or_r}
use Rattle.meaning.proofs.Walks.{NonePass}
use Rattle.meaning.proofs.Picks.{count-or, count-one}

-- where none passes there is nothing to count
pub count_none : (f : ℕ → Bool) (i n : ℕ) → NonePass f i n → count f i n ≡ 0
unfolding count
count_none f i zero h = refl
count_none f i (suc n) h = rw (h i (omega arith) (omega arith)) (count_none f (suc i) n (λ k a b. h k (omega arith) (omega arith)))

module _ (f g : ℕ → Bool) where
  -- whatever passes the one test passes the other
  abbrev Within : ℕ → ℕ → Type 0
  Within i n = (k : ℕ) → i ≤ k → k < i + n → f k ≡ true → g k ≡ true

  -- then no more pass the one
  pub count-mono : (i n : ℕ) → Within i n → count f i n ≤ count g i n
  unfolding count
  count-mono i zero h = omega arith
  count-mono i (suc n) h =
      step (f i) (g i) (count f (suc i) n) (count g (suc i) n) (h i (omega arith) (omega arith)) (count-mono (suc i) n (λ k a b. h k (omega arith) (omega arith)))
    where
      step : (a b : Bool) (x y : ℕ) → (a ≡ true → b ≡ true) → x ≤ y → cond a (suc x) x ≤ cond b (suc y) y
      step true true x y f h = omega arith
      step true false x y f h = absurd (false≢true (f refl))
      step false true x y f h = omega arith
      step false false x y f h = omega arith

  -- and fewer do where some w passes the other alone
  pub count-strict : (w i n : ℕ) → i ≤ w → w < i + n → f w ≡ false → g w ≡ true → Within i n → count f i n + 1 ≤ count g i n
  unfolding count
  count-strict w i zero a b e d h = absurd (omega arith)
  count-strict w i (suc n) a b e d h =
      let rest : Within (suc i) n = λ k p q. h k (omega arith) (omega arith) in
      ⊎_elim
      (λ p. let e' : f i ≡ false = ap f p ∙ e in let d' : g i ≡ true = ap g p ∙ d in rw (e', d') (omega (arith, count-mono (suc i) n rest)))
      (λ l. step (f i) (g i) (count f (suc i) n) (count g (suc i) n) (h i (omega arith) (omega arith)) (count-strict w (suc i) n l (omega arith) e d rest))
      (eq-or-lt_of_le a)
    where
      step : (a b : Bool) (x y : ℕ) → (a ≡ true → b ≡ true) → x + 1 ≤ y → cond a (suc x) x + 1 ≤ cond b (suc y) y
      step true true x y f h = omega arith
      step true false x y f h = absurd (false≢true (f refl))
      step false true x y f h = omega arith
      step false false x y f h = omega arith

-- where whatever passes the second test, except w, passes the first, the second has one more at most
pub count-one_more : (f g : ℕ → Bool) (w i n : ℕ) → ((k : ℕ) → i ≤ k → k < i + n → g k ≡ true → (w ≡ k → ⊥) → f k ≡ true) → count g i n ≤ count f i n + 1
count-one_more f g w i n h =
    let with-w : ℕ → Bool = λ k. f k || eqb w k in
    let m = count-mono g with-w i n
    (λ k a b e. ⊎_elim (λ y. or_r (f k) (eqb w k) y) (λ z. or_l (f k) (eqb w k) (h k a b e (eqb-false w k z))) (went (eqb w k))) in
    omega (arith, m, count-or f (λ k. eqb w k) i n, count-one w i n)
