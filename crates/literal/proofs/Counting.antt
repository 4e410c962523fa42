-- Numbers gone through one after the other, counted, tested and the first that passes found; and what is true where exactly one passes.
use mathlib.Core.Path.{◌≡◌, refl, sym, ◌∙◌, ap}
use mathlib.Core.Logic.{⊎_elim}
use mathlib.Core.Bool.{Bool, true, false, ◌&&◌, cond}
use Prim.Native.Nat.{ℕ, zero, suc, ◌+◌, ◌-◌, ◌<◌}
use native.Mathlib.Omega.{arith}
use native.Mathlib.Numerals.{add-one}
use lib.Dec.{eqb}
use borrow.Author.Tests.{eq-eqb, eqb-true}
use Rattle.std.specs.Prelude.{Some}
use Rattle.meaning.specs.Walk.{any, count, first, Found}
use Rattle.meaning.proofs.Basics.{went, both}
use Rattle.meaning.proofs.Walks.{any_some}
use Rattle.meaning.proofs.Loops.{any_last, first-yes, first-no}
use Rattle.literal.specs.Counts.{Counts}

-- one number more at the far end
count-far : (f : ℕ → Bool) (i n : ℕ) → count f i (suc n) ≡ count f i n + cond (f (i + n)) 1 0
unfolding count
count-far f i zero = let e : i + 0 ≡ i = omega arith in rw e (one (f i))
  where
    one : (t : Bool) → cond t 1 0 ≡ 0 + cond t 1 0
    one true = omega arith
    one false = omega arith
count-far f i (suc n) =
    let e : suc i + n ≡ i + suc n = omega arith in
    let rest : count f (suc i) (suc n) ≡ count f (suc i) n + cond (f (i + suc n)) 1 0
    = count-far f (suc i) n ∙ ap (λ x. count f (suc i) n + cond (f x) 1 0) e in
    ⊎_elim (λ y. rw y (omega arith)) (λ z. rw z rest) (went (f i))

count-last : (f : ℕ → Bool) (n : ℕ) → count f 0 (n + 1) ≡ count f 0 n + cond (f n) 1 0
count-last f n = let e : 0 + n ≡ n = omega arith in rw (add-one n) (rw e at (count-far f 0 n))

module _ (f : ℕ → Bool) where
  -- counted as far as i, and the number i is next
  pub count_none : 0 ≡ count f 0 0
  unfolding count
  count_none = refl

  module _ (i many : ℕ) (c : many ≡ count f 0 i) (many' : ℕ) (t : Bool) (is : t ≡ f i) where
    pub count-more : t ≡ true → many' ≡ many + 1 → many' ≡ count f 0 (i + 1)
    count-more y e = let last : count f 0 (i + 1) ≡ count f 0 i + 1 = rw (sym is ∙ y) at (count-last f i) in omega arith

    pub count-skip : t ≡ false → many' ≡ many → many' ≡ count f 0 (i + 1)
    count-skip z e = let last : count f 0 (i + 1) ≡ count f 0 i + 0 = rw (sym is ∙ z) at (count-last f i) in omega arith

  -- all are counted
  pub count-all : (i n many : ℕ) → many ≡ count f 0 i → i ≡ n → many ≡ count f 0 n
  count-all i n many c e = c ∙ ap (count f 0) e

  -- the same, with one that passes
  pub counted_none : (x : ℕ) → Counts f 0 0 x
  counted_none x = record { counts = count_none; low = λ h. absurd (omega arith); passes = λ h. absurd (omega arith) }

  -- the number i is next
  module _ (i many x : ℕ) (c : Counts f i many x) (many' x' : ℕ) (t : Bool) (is : t ≡ f i) where
    pub counted-more : t ≡ true → many' ≡ many + 1 → x' ≡ i → Counts f (i + 1) many' x'
    counted-more y e h =
        record { counts = count-more i many c.counts many' t is y e; low = λ _. omega arith; passes = λ _. rw h (sym is ∙ y) }

    pub counted_skip : t ≡ false → many' ≡ many → x' ≡ x → Counts f (i + 1) many' x'
    counted_skip z e h =
        record { counts = count-skip i many c.counts many' t is z e; low = λ l. omega (arith, c.low (omega arith)); passes = λ l. rw h (c.passes (omega arith)) }

  pub counted-all : (i n many x : ℕ) → Counts f i many x → i ≡ n → Counts f n many x
  counted-all i n many x c e = rw (sym e) c

  -- what is asked of those that pass, where none does
  none-asks : (h : ℕ → Bool) (i n : ℕ) → count f i n ≡ 0 → any (λ g. f g && h g) i n ≡ false
  unfolding count any
  none-asks h i zero e = refl
  none-asks h i (suc n) e =
      ⊎_elim
      (λ y. let z : suc (count f (suc i) n) ≡ 0 = rw y at e in absurd (omega arith))
      (λ z. rw z (none-asks h (suc i) n (rw z at e)))
      (went (f i))

  -- where one does, it is asked of that one
  record One (i n : ℕ) : Type 0 where
    pub at : ℕ
    pub asks : (h : ℕ → Bool) → any (λ g. f g && h g) i n ≡ h at

  one : (i n : ℕ) → count f i n ≡ 1 → One i n
  unfolding count any
  one i zero e = absurd (omega arith)
  one i (suc n) e =
      ⊎_elim
      (λ y.
      let s : suc (count f (suc i) n) ≡ 1 = rw y at e in
      record { at = i; asks = λ h. rw (y, none-asks h (suc i) n (omega arith)) (as_is (h i)) })
      (λ z. let o = one (suc i) n (rw z at e) in record { at = o.at; asks = λ h. rw z (o.asks h) })
      (went (f i))
    where
      as_is : (b : Bool) → cond b true false ≡ b
      as_is true = refl
      as_is false = refl

  -- x is that one, if it passes
  pub one-asks : (n x : ℕ) → count f 0 n ≡ 1 → x < n → f x ≡ true → (h : ℕ → Bool) → any (λ g. f g && h g) 0 n ≡ h x
  one-asks n x e l y h =
      let o = one 0 n e in
      let mine : any (λ g. f g && eqb x g) 0 n ≡ true
      = any_some (λ g. f g && eqb x g) 0 n x (record { from = omega arith; below = omega arith; passes = both (f x) (eqb x x) y (eq-eqb x x refl) }) in
      let same : x ≡ o.at = eqb-true x o.at (sym (o.asks (eqb x)) ∙ mine) in
      o.asks h ∙ ap h (sym same)

  -- whether some number passes: none below i does, and i is next
  pub any-start : any f 0 0 ≡ false
  unfolding any
  any-start = refl

  module _ (i : ℕ) (t : Bool) (is : t ≡ f i) where
    pub any-hit : (n : ℕ) → i < n → t ≡ true → true ≡ any f 0 n
    any-hit n l y = sym (any_some f 0 n i (record { from = omega arith; below = omega arith; passes = sym is ∙ y }))

    pub any-miss : any f 0 i ≡ false → t ≡ false → any f 0 (i + 1) ≡ false
    any-miss e z = rw (add-one i) (any_last f i ∙ rw (e, sym is ∙ z))

  pub any-end : (i n : ℕ) → any f 0 i ≡ false → i ≡ n → false ≡ any f 0 n
  any-end i n e h = sym (rw h at e)

  -- the first that passes: what is left at i is the walk from i on, and i is next
  module _ (n i : ℕ) (t : Bool) (is : t ≡ f i) (whole : Found) (rest : first f i (n - i) ≡ whole) (low : i < n) where
    pub first-hit : t ≡ true → Some i ≡ whole
    first-hit y = sym (first-yes f n i low (sym is ∙ y)) ∙ rest

    pub first-miss : t ≡ false → first f (i + 1) (n - (i + 1)) ≡ whole
    first-miss z = sym (first-no f n i low (sym is ∙ z)) ∙ rest
