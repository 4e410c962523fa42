-- Counting values: a value more, and that as many values are told as there are first ones among those that have them.
use mathlib.Core.Path.{◌≡◌, refl, sym, ◌∙◌, ap}
use mathlib.Core.Logic.{⊎_elim}
use mathlib.Core.Bool.{Bool, true, false, ◌&&◌, ◌||◌, not, cond, or-false}
use Prim.Native.Nat.{ℕ, zero, suc, ◌+◌, ◌≤◌, ◌<◌}
use native.Mathlib.Nat.{eq-or-lt_of_le}
use native.Mathlib.Omega.{arith}
use lib.Dec.{eqb}
use borrow.Author.Tests.{eq-eqb, ne_eqb, ltb-false}
use Rattle.meaning.specs.Walk.{any, count}
use Rattle.meaning.proofs.Basics.{went, or_r}
use Rattle.meaning.proofs.Walks.{NonePass, any_none, any_same, count_same}
use Rattle.meaning.proofs.Loops.{any_last}
use Rattle.day.proofs.Single.{any-count, eqb_sym}
use Rattle.day.proofs.Tallying.{count-last}

-- where none passes, none is counted
pub count_none : (f : ℕ → Bool) (n : ℕ) → NonePass f 0 n → count f 0 n ≡ 0
count_none f n none = omega (arith, ltb-false 0 (count f 0 n) (sym (any-count f 0 n) ∙ any_none f 0 n none))

-- x more, which is one more where it did not pass before
count-with : (s : ℕ → Bool) (x n : ℕ) → x < n → count (λ y. s y || eqb x y) 0 n ≡ count s 0 n + cond (not (s x)) 1 0
count-with s x zero h = absurd (omega arith)
count-with s x (suc n) h =
    let g : ℕ → Bool = λ y. s y || eqb x y in
    ⊎_elim
    (λ (e : x ≡ n).
    let below : count g 0 n ≡ count s 0 n = count_same g s 0 n (λ k a b. rw (ne_eqb x k (λ q. omega arith)) (or-false (s k))) in
    let own : g n ≡ true = or_r (s n) (eqb x n) (eq-eqb x n e) in
    let more : count g 0 (suc n) ≡ count g 0 n + 1 = rw own at (count-last g n) in
    last (s n) (count s 0 (suc n)) (count-last s n) (s x) (ap s e) (omega arith))
    (λ (l : x < n).
    let same : g n ≡ s n = rw (ne_eqb x n (λ q. omega arith)) (or-false (s n)) in
    let more : count g 0 (suc n) ≡ count g 0 n + cond (s n) 1 0 = rw same at (count-last g n) in
    omega (arith, count-with s x n l, count-last s n))
    (eq-or-lt_of_le (at_most x n h))
  where
    at_most : (x n : ℕ) → x < suc n → x ≤ n
    at_most x n h = omega arith

    last : (b : Bool) (k : ℕ) → k ≡ count s 0 n + cond b 1 0 → (a : Bool) → a ≡ b → count (λ y. s y || eqb x y) 0 (suc n) ≡ count s 0 n + 1
        → count (λ y. s y || eqb x y) 0 (suc n) ≡ k + cond (not a) 1 0
    last true k e true i c = omega arith
    last false k e false i c = omega arith
    last true k e false i c = let z : ◌≡◌ {A = ℕ} 0 1 = cc in absurd (omega arith)
    last false k e true i c = let z : ◌≡◌ {A = ℕ} 0 1 = cc in absurd (omega arith)

-- the same where b, and nothing more otherwise
pub count-more : (s : ℕ → Bool) (x n : ℕ) → x < n → (b : Bool) → count (λ y. s y || (b && eqb x y)) 0 n ≡ count s 0 n + cond (b && not (s x)) 1 0
count-more s x n h true = count-with s x n h
count-more s x n h false = let e = count_same (λ y. s y || false) s 0 n (λ k a b. or-false (s k)) in omega arith

-- of those that `under` passes, each with a representative below n, as many are the first of their value as there are values
module _ (n : ℕ) (rep : ℕ → ℕ) (low : (f : ℕ) → f < n → rep f < n) (under : ℕ → Bool) (same : ℕ → ℕ → Bool)
    (agrees : (f g : ℕ) → under f ≡ true → under g ≡ true → same f g ≡ eqb (rep f) (rep g)) where
  abbrev newest : ℕ → Bool
  newest f = under f && not (any (λ g. same f g && under g) 0 f)

  abbrev told : ℕ → ℕ → Bool
  told m x = any (λ f. under f && eqb (rep f) x) 0 m

  -- what is the same as f, below it, is what told its value
  before : (f : ℕ) → under f ≡ true → any (λ g. same f g && under g) 0 f ≡ told f (rep f)
  before f u = any_same _ _ 0 f (λ g a b. turn (same f g) (under g) _ (λ v. agrees f g u v ∙ eqb_sym (rep f) (rep g)))
    where
      turn : (x y z : Bool) → (y ≡ true → x ≡ z) → x && y ≡ (y && z)
      turn x true z h = ap (λ b. b && true) (h refl) ∙ and_one z
        where
          and_one : (z : Bool) → z && true ≡ z
          and_one true = refl
          and_one false = refl
      turn true false z h = refl
      turn false false z h = refl

  pub first-of_value : (m : ℕ) → m ≤ n → count newest 0 m ≡ count (told m) 0 n
  unfolding any count
  first-of_value zero h = sym (count_none (told 0) n (λ k a b. refl))
  first-of_value (suc m) h =
      let more = count-more (told m) (rep m) n (low m (omega arith)) (under m) in
      let split = count_same (told (suc m)) (λ x. told m x || (under m && eqb (rep m) x)) 0 n (λ x a b. any_last (λ f. under f && eqb (rep f) x) m) in
      let own : newest m ≡ (under m && not (told m (rep m))) = new m in
      let last : count newest 0 (suc m) ≡ count newest 0 m + cond (under m && not (told m (rep m))) 1 0 = rw own at (count-last newest m) in
      omega (arith, first-of_value m (omega arith))
    where
      new : (m : ℕ) → newest m ≡ (under m && not (told m (rep m)))
      new m = ⊎_elim (λ y. rw (y, before m y)) (λ z. rw z) (went (under m))
