-- The lowest refusal, where everything below its place is accepted.
use mathlib.Core.Path.{◌≡◌, ◌∙◌, ap}
use mathlib.Core.Logic.{⊎_elim}
use Prim.Native.Nat.{ℕ, zero, suc, ◌+◌, ◌≤◌, ◌<◌}
use native.Mathlib.Nat.{eq-or-lt_of_le}
use native.Mathlib.Omega.{arith}
use Rattle.meaning.specs.Reading.{Reading, Accepted, Refused}
use Rattle.meaning.specs.Order.{earliest}

module _ (f : ℕ → Reading) where
  pub earliest-at : (j k p i n : ℕ) → i ≤ j → j < i + n → f j ≡ Refused k p → ((m : ℕ) → i ≤ m → m < j → f m ≡ Accepted)
      → earliest f i n ≡ Refused k p
  unfolding earliest
  earliest-at j k p i zero h l e r = absurd (omega arith)
  earliest-at j k p i (suc n) h l e r =
      ⊎_elim
      (λ q. let z : f i ≡ Refused k p = ap f q ∙ e in rw z)
      (λ lt. let z : f i ≡ Accepted = r i (omega arith) lt in rw z (earliest-at j k p (suc i) n lt (omega arith) e (λ m a b. r m (omega arith) b)))
      (eq-or-lt_of_le h)
