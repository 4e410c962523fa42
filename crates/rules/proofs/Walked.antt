-- Walks as a loop goes through them: at number k of n, one step on, where it stops, and past the last number; and two walks that agree.
use mathlib.Core.Path.{◌≡◌, refl}
use mathlib.Core.Bool.{Bool, true, false}
use Prim.Native.Nat.{ℕ, zero, suc, ◌+◌, ◌-◌, ◌≤◌, ◌<◌}
use native.Mathlib.Numerals.{add-one}
use native.Mathlib.Omega.{arith}
use Rattle.meaning.specs.Reading.{Reading, Accepted, Refused}
use Rattle.meaning.specs.Walk.{any}
use Rattle.meaning.specs.Order.{earliest}

-- how many are left at number k: one more than after it, or none
left : (n k : ℕ) → k < n → n - k ≡ suc (n - (k + 1))
left n k h = omega arith

over : (n k : ℕ) → n ≤ k → n - k ≡ 0
over n k h = omega arith

module _ (f : ℕ → Bool) (n k : ℕ) where
  pub any-on : k < n → f k ≡ false → any f (k + 1) (n - (k + 1)) ≡ any f k (n - k)
  unfolding any
  any-on h e = rw (left n k h, e, add-one)

  pub any-stops : k < n → f k ≡ true → any f k (n - k) ≡ true
  unfolding any
  any-stops h e = rw (left n k h, e)

  pub any-ends : n ≤ k → any f k (n - k) ≡ false
  unfolding any
  any-ends h = rw (over n k h)

module _ (f : ℕ → Reading) (n k : ℕ) where
  pub earliest-on : k < n → f k ≡ Accepted → earliest f (k + 1) (n - (k + 1)) ≡ earliest f k (n - k)
  unfolding earliest
  earliest-on h e = rw (left n k h, e, add-one)

  pub earliest-stops : {x y : ℕ} → k < n → f k ≡ Refused x y → Refused x y ≡ earliest f k (n - k)
  unfolding earliest
  earliest-stops h e = rw (left n k h, e)

  pub earliest-ends : n ≤ k → Accepted ≡ earliest f k (n - k)
  unfolding earliest
  earliest-ends h = rw (over n k h)

-- two walks that say the same at each number
pub earliest-same : (f g : ℕ → Reading) (i n : ℕ) → ((k : ℕ) → k < i + n → f k ≡ g k) → earliest f i n ≡ earliest g i n
unfolding earliest
earliest-same f g i zero h = refl
earliest-same f g i (suc n) h = rw (h i (omega arith), earliest-same f g (suc i) n (λ k l. h k (omega arith)))
