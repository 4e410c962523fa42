-- How a loop goes along a walk: with n the end, what is left at i is the walk over the n - i numbers from i on.
use mathlib.Core.Path.{◌≡◌, refl, ◌∙◌, ap}
use mathlib.Core.Logic.{⊎_elim}
use mathlib.Core.Bool.{Bool, true, false, ◌||◌, cond}
use Prim.Native.Nat.{ℕ, zero, suc, ◌+◌, ◌-◌, ◌≤◌, ◌<◌}
use native.Mathlib.Numerals.{add-one}
use native.Mathlib.Omega.{arith}
use Rattle.std.specs.Prelude.{Some, None}
use Rattle.meaning.specs.Walk.{any, first}
use Rattle.meaning.proofs.Basics.{went}

-- one number less is left
pub one_less : (i n : ℕ) → i < n → n - i ≡ suc (n - (i + 1))
one_less i n h = omega arith

module _ (f : ℕ → Bool) (n : ℕ) where
  pub first-start : first f 0 (n - 0) ≡ first f 0 n
  first-start = let e : n - 0 ≡ n = omega arith in rw e

  pub first-yes : (i : ℕ) → i < n → f i ≡ true → first f i (n - i) ≡ Some i
  unfolding first
  first-yes i h e = rw (one_less i n h, e)

  pub first-no : (i : ℕ) → i < n → f i ≡ false → first f i (n - i) ≡ first f (i + 1) (n - (i + 1))
  unfolding first
  first-no i h e = rw (one_less i n h, e, add-one i)

  pub first-end : (i : ℕ) → n ≤ i → first f i (n - i) ≡ None
  unfolding first
  first-end i h = let e : n - i ≡ 0 = omega arith in rw e

-- one number more at the far end
any-far : (f : ℕ → Bool) (i n : ℕ) → any f i (suc n) ≡ (any f i n || f (i + n))
unfolding any
any-far f i zero = let e : i + 0 ≡ i = omega arith in rw e (one (f i))
  where
    one : (t : Bool) → cond t true false ≡ (false || t)
    one true = refl
    one false = refl
any-far f i (suc n) =
    let r = any-far f (suc i) n in
    let e : suc i + n ≡ i + suc n = omega arith in
    ⊎_elim (λ y. rw y) (λ z. rw z (r ∙ ap (λ x. any f (suc i) n || f x) e)) (went (f i))

pub any_last : (f : ℕ → Bool) (n : ℕ) → any f 0 (suc n) ≡ (any f 0 n || f n)
any_last f n = let e : 0 + n ≡ n = omega arith in rw e at (any-far f 0 n)
