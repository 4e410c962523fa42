-- What the walks any, first, pick and count say of the numbers they pass over.
use mathlib.Core.Path.{◌≡◌, refl, sym, ◌∙◌, ap}
use mathlib.Core.Logic.{⊎_elim}
use mathlib.Core.Bool.{Bool, true, false, false≢true}
use mathlib.Core.List.{List, [], ◌∷◌, ◌++◌, map}
use Prim.Native.Nat.{ℕ, zero, suc, ◌+◌, ◌≤◌, ◌<◌}
use native.Mathlib.Nat.{eq-or-lt_of_le}
use native.Mathlib.Omega.{arith}
use lib.ListN.{length, get_or, take}
use lib.Seq.{ext_get_or, get_or-take, length-take-le}
use Rattle.std.specs.Prelude.{Some, None}
use Rattle.meaning.specs.Walk.{any, count, first, pick, listed}
use Rattle.meaning.proofs.Basics.{went, clear}

-- k is one of i, i + 1, .., n of them, and passes
pub record Passes (f : ℕ → Bool) (i n k : ℕ) : Type 0 where
  pub from : i ≤ k
  pub below : k < i + n
  pub passes : f k ≡ true

-- none of them does
abbrev pub NonePass : (ℕ → Bool) → ℕ → ℕ → Type 0
NonePass f i n = (k : ℕ) → i ≤ k → k < i + n → f k ≡ false

module _ (f : ℕ → Bool) where
  none_more : (i n : ℕ) → f i ≡ false → NonePass f (suc i) n → NonePass f i (suc n)
  none_more i n e r k h l = ⊎_elim (λ p. ap f (sym p) ∙ e) (λ lt. r k lt (omega arith)) (eq-or-lt_of_le h)

  none-less : (i n : ℕ) → NonePass f i (suc n) → NonePass f (suc i) n
  none-less i n r k h l = r k (omega arith) (omega arith)

  pub any_none : (i n : ℕ) → NonePass f i n → any f i n ≡ false
  unfolding any
  any_none i zero r = refl
  any_none i (suc n) r = rw (r i (omega arith) (omega arith)) (any_none (suc i) n (none-less i n r))

  pub any_false : (i n : ℕ) → any f i n ≡ false → NonePass f i n
  unfolding any
  any_false i zero e = λ k h l. absurd (omega arith)
  any_false i (suc n) e =
      ⊎_elim
      (λ y. absurd (false≢true (sym (rw y at e))))
      (λ z. none_more i n z (any_false (suc i) n (rw z at e)))
      (went (f i))

  pub any_some : (i n k : ℕ) → Passes f i n k → any f i n ≡ true
  any_some i n k p = ⊎_elim (λ y. y) (λ z. absurd (clear p.passes (any_false i n z k p.from p.below))) (went (any f i n))

  pub any-true : (i n : ℕ) → any f i n ≡ true → (k : ℕ) × Passes f i n k
  unfolding any
  any-true i zero e = absurd (false≢true e)
  any-true i (suc n) e =
      ⊎_elim
      (λ y. (i, record { from = omega arith; below = omega arith; passes = y }))
      (λ z. let r = any-true (suc i) n (rw z at e) in (r.0, record { from = omega arith; below = omega arith; passes = r.1.passes }))
      (went (f i))

  pub first-none : (i n : ℕ) → NonePass f i n → first f i n ≡ None
  unfolding first
  first-none i zero r = refl
  first-none i (suc n) r = rw (r i (omega arith) (omega arith)) (first-none (suc i) n (none-less i n r))

  pub first-nothing : (i n : ℕ) → first f i n ≡ None → NonePass f i n
  unfolding first
  first-nothing i zero e = λ k h l. absurd (omega arith)
  first-nothing i (suc n) e =
      ⊎_elim
      (λ y. let p : Some i ≡ None = rw y at e in let z : ◌≡◌ {A = ℕ} 0 1 = cc in absurd (omega arith))
      (λ z. none_more i n z (first-nothing (suc i) n (rw z at e)))
      (went (f i))

  -- the lowest that passes, where none below it does
  pub first-at : (k i n : ℕ) → i ≤ k → k < i + n → f k ≡ true → ((j : ℕ) → i ≤ j → j < k → f j ≡ false) → first f i n ≡ Some k
  unfolding first
  first-at k i zero h l y r = absurd (omega arith)
  first-at k i (suc n) h l y r =
      ⊎_elim
      (λ p. let z : f i ≡ true = ap f p ∙ y in rw z (ap Some p))
      (λ lt. let z : f i ≡ false = r i (omega arith) lt in rw z (first-at k (suc i) n lt (omega arith) y (λ j a b. r j (omega arith) b)))
      (eq-or-lt_of_le h)

  -- what is found passes, and nothing below it does
  pub record Lowest (i n k : ℕ) : Type 0 where
    pub from : i ≤ k
    pub below : k < i + n
    pub passes : f k ≡ true
    pub before : (j : ℕ) → i ≤ j → j < k → f j ≡ false

  pub first_found : (i n k : ℕ) → first f i n ≡ Some k → Lowest i n k
  unfolding first
  first_found i zero k e = let z : ◌≡◌ {A = ℕ} 0 1 = cc in absurd (omega arith)
  first_found i (suc n) k e =
      ⊎_elim
      (λ y.
      let p : Some i ≡ Some k = rw y at e in
      let q : i ≡ k = cc in
      record { from = omega arith; below = omega arith; passes = ap f (sym q) ∙ y; before = λ j a b. absurd (omega arith) })
      (λ z.
      let l = first_found (suc i) n k (rw z at e) in
      record {
        from = omega (arith, l.from);
        below = omega (arith, l.below);
        passes = l.passes;
        before = λ j a b. ⊎_elim (λ p. ap f (sym p) ∙ z) (λ lt. l.before j lt b) (eq-or-lt_of_le a);
      })
      (went (f i))

-- two tests that agree on the numbers walked over give the same walk
module _ (f g : ℕ → Bool) where
  abbrev Alike : ℕ → ℕ → Type 0
  Alike i n = (k : ℕ) → i ≤ k → k < i + n → f k ≡ g k

  alike-less : (i n : ℕ) → Alike i (suc n) → Alike (suc i) n
  alike-less i n h k a b = h k (omega arith) (omega arith)

  pub any_same : (i n : ℕ) → Alike i n → any f i n ≡ any g i n
  unfolding any
  any_same i zero h = refl
  any_same i (suc n) h = rw (h i (omega arith) (omega arith), any_same (suc i) n (alike-less i n h))

  pub count_same : (i n : ℕ) → Alike i n → count f i n ≡ count g i n
  unfolding count
  count_same i zero h = refl
  count_same i (suc n) h = rw (h i (omega arith) (omega arith), count_same (suc i) n (alike-less i n h))

  pub pick_same : (i n : ℕ) → Alike i n → pick f i n ≡ pick g i n
  unfolding pick
  pick_same i zero h = refl
  pick_same i (suc n) h = rw (h i (omega arith) (omega arith), pick_same (suc i) n (alike-less i n h))

  pub first-same : (i n : ℕ) → Alike i n → first f i n ≡ first g i n
  unfolding first
  first-same i zero h = refl
  first-same i (suc n) h = rw (h i (omega arith) (omega arith), first-same (suc i) n (alike-less i n h))

-- a list of what f gives
module _ {A : Type 0} (f : ℕ → A) where
  pub length_listed : (i n : ℕ) → length (listed f i n) ≡ n
  unfolding listed
  length_listed i zero = refl
  length_listed i (suc n) = ap suc (length_listed (suc i) n)

  pub get_d_listed : (i n k : ℕ) (x : A) → k < n → get_or (listed f i n) k x ≡ f (i + k)
  unfolding listed
  get_d_listed i zero k x h = absurd (omega arith)
  get_d_listed i (suc n) zero x h = let e : i ≡ i + 0 = omega arith in ap f e
  get_d_listed i (suc n) (suc k) x h = let e : suc i + k ≡ i + suc k = omega arith in get_d_listed (suc i) n k x (omega arith) ∙ ap f e

  -- one entry more at the far end
  pub listed_more : (i n : ℕ) → listed f i (suc n) ≡ listed f i n ++ (f (i + n) ∷ [])
  unfolding listed
  listed_more i zero = let e : i + 0 ≡ i = omega arith in rw e
  listed_more i (suc n) = let e : i + suc n ≡ suc i + n = omega arith in ap (λ l. f i ∷ l) (rw e (listed_more (suc i) n))

-- two functions that agree on the numbers walked over list the same
pub listed_same : {A : Type 0} (f g : ℕ → A) (i n : ℕ) → ((k : ℕ) → i ≤ k → k < i + n → f k ≡ g k) → listed f i n ≡ listed g i n
unfolding listed
listed_same f g i zero h = refl
listed_same f g i (suc n) h = rw (h i (omega arith) (omega arith), listed_same f g (suc i) n (λ k a b. h k (omega arith) (omega arith)))

-- what is made of each entry of a list of what f gives
pub map_listed : {A B : Type 0} (g : A → B) (f : ℕ → A) (i n : ℕ) → map g (listed f i n) ≡ listed (λ k. g (f k)) i n
unfolding listed
map_listed g f i zero = refl
map_listed g f i (suc n) = ap (λ l. g (f i) ∷ l) (map_listed g f (suc i) n)

-- the first entries of a list, one by one
pub listed-front : {A : Type 0} (d : A) (s : List A) (n : ℕ) → n ≤ length s → listed (λ i. get_or s i d) 0 n ≡ take n s
listed-front d s n h =
    let same = length_listed (λ i. get_or s i d) 0 n in
    ext_get_or d (listed (λ i. get_or s i d) 0 n) (take n s) (same ∙ sym (length-take-le n s h))
    (λ i l. let e : 0 + i ≡ i = omega arith in
    get_d_listed (λ k. get_or s k d) 0 n i d (omega (arith, same)) ∙ ap (λ k. get_or s k d) e ∙ sym (get_or-take n s i d (omega (arith, same))))
