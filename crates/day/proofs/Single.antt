-- Counts and bounds: what is true where exactly one number passes, where none does, and of a number outside its bounds.
use mathlib.Core.Path.{◌≡◌, refl, sym}
use mathlib.Core.Logic.{⊎_elim}
use mathlib.Core.Bool.{Bool, true, false, ◌&&◌, ◌||◌, not, cond}
use Prim.Native.Nat.{ℕ, zero, suc, ◌≤◌, ◌<◌}
use native.Mathlib.Omega.{arith}
use lib.IntN.{pos}
use lib.Dec.{leb, ltb, eqb}
use borrow.Author.Tests.{lt-ltb, le-ltb, le-leb, lt-leb, eqb-true, eqb-false, eq-eqb}
use Rattle.meaning.specs.declared.Rule.{Rule}
use Rattle.meaning.specs.Walk.{any, count}
use Rattle.meaning.specs.Select.{within}
use Rattle.meaning.proofs.Basics.{went, le_or_lt, or_r, tests_same}
use Rattle.day.specs.Row.{outside}

-- one number passes, and what is asked of those that pass is asked of it
pub record One (f : ℕ → Bool) (i n : ℕ) : Type 0 where
  pub at : ℕ
  pub passes : f at ≡ true
  pub asks : (h : ℕ → Bool) → any (λ g. f g && h g) i n ≡ h at

module _ (f : ℕ → Bool) where
  none-asks : (h : ℕ → Bool) (i n : ℕ) → count f i n ≡ 0 → any (λ g. f g && h g) i n ≡ false
  unfolding count any
  none-asks h i zero e = refl
  none-asks h i (suc n) e =
      ⊎_elim
      (λ y. let z : suc (count f (suc i) n) ≡ 0 = rw y at e in absurd (omega arith))
      (λ z. rw z (none-asks h (suc i) n (rw z at e)))
      (went (f i))

  pub one : (i n : ℕ) → count f i n ≡ 1 → One f i n
  unfolding count any
  one i zero e = absurd (omega arith)
  one i (suc n) e =
      ⊎_elim
      (λ y.
      let s : suc (count f (suc i) n) ≡ 1 = rw y at e in
      record { at = i; passes = y; asks = λ h. rw (y, none-asks h (suc i) n (omega arith)) (as_is (h i)) })
      (λ z.
      let o = one (suc i) n (rw z at e) in
      record { at = o.at; passes = o.passes; asks = λ h. rw z (o.asks h) })
      (went (f i))
    where
      as_is : (b : Bool) → cond b true false ≡ b
      as_is true = refl
      as_is false = refl

  -- some number passes where more than none do
  pub any-count : (i n : ℕ) → any f i n ≡ ltb 0 (count f i n)
  unfolding count any
  any-count i zero = sym (le-ltb 0 0 (omega arith))
  any-count i (suc n) =
      ⊎_elim
      (λ y. rw y (sym (lt-ltb 0 (suc (count f (suc i) n)) (omega arith))))
      (λ z. rw z (any-count (suc i) n))
      (went (f i))

pub eqb_sym : (a b : ℕ) → eqb a b ≡ eqb b a
eqb_sym a b = tests_same (eqb a b) (eqb b a) (λ e. eq-eqb b a (sym (eqb-true a b e))) (λ e. eq-eqb a b (sym (eqb-true b a e)))

-- outside 1..1, outside 0..high, and outside a rule's min..max
pub outside-one : (c : ℕ) → outside 1 1 c ≡ not (eqb c 1)
outside-one c =
    ⊎_elim
    (λ i. let e : c ≡ 1 = eqb-true c 1 i in rw e)
    (λ i.
    let no : c ≡ 1 → ⊥ = eqb-false c 1 i in
    rw i
    (⊎_elim
    (λ (l : c ≤ 0). let s : c < 1 = omega arith in rw (lt-ltb c 1 s))
    (λ (g : 0 < c). let s : 1 < c = omega arith in or_r (ltb c 1) (ltb 1 c) (lt-ltb 1 c s))
    (le_or_lt c 0)))
    (went (eqb c 1))

pub outside-most : (high c : ℕ) → outside 0 high c ≡ ltb high c
outside-most high c = rw (le-ltb c 0 (omega arith))

not_leb : (a b : ℕ) → ltb b a ≡ not (leb a b)
not_leb a b =
    ⊎_elim
    (λ (h : a ≤ b). rw (le-ltb b a h, le-leb a b h))
    (λ (h : b < a). rw (lt-ltb b a h, lt-leb a b h))
    (le_or_lt a b)

pub outside-bounds : (low high c : ℕ) → outside low high c ≡ not (leb low c && leb c high)
outside-bounds low high c = rw (not_leb low c, not_leb c high) (either (leb low c) (leb c high))
  where
    either : (a b : Bool) → (not a || not b) ≡ not (a && b)
    either true b = refl
    either false b = refl

pub outside-within : (r : Rule) (low high c : ℕ) → pos low ≡ r.low → pos high ≡ r.high → outside low high c ≡ not (within r (pos c))
unfolding within
outside-within r low high c l h = rw (sym l, sym h) (outside-bounds low high c)
