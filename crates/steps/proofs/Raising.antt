-- Signed numbers moved up: a step outside its bounds, said of numbers from 0 up.
use mathlib.Core.Path.{◌≡◌, refl, sym, ap, ◌∙◌}
use mathlib.Core.Logic.{⊎_elim}
use mathlib.Core.Bool.{Bool, true, false, ◌&&◌, ◌||◌, not, cond, false≢true}
use Prim.Native.Nat.{ℕ, zero, suc, ◌+◌, ◌-◌, ◌≤◌, ◌<◌}
use native.Mathlib.Omega.{arith}
use lib.Dec.{eqb, leb, ltb}
use lib.IntN.{ℤ, pos, negsuc, ◌-ℤ◌}
use lib.Signed.{le_z, mag}
use borrow.Author.Tests.{ltb-true, ltb-false, leb-true, lt-ltb, le-ltb, le-leb, lt-leb, eq-eqb, ne_eqb}
use Rattle.meaning.proofs.Basics.{went, tests_same}
use Rattle.meaning.proofs.Says.{says}
use Rattle.steps.specs.Levels.{raised, level_of, bound_of}

-- a number, from 0 up and below 0; x and y are the number, read back
pub raised-up : (z x y : ℤ) (m : ℕ) → m ≡ mag x → x ≡ z → le_z (pos 0) y ≡ true → y ≡ z → mag z < 2147483648 → (2147483648 + m ≡ raised z) × (2147483648 + m < 4294967296)
unfolding raised
raised-up (pos n) x y m em ex t ey h = let e : m ≡ n = em ∙ ap mag ex in (omega arith, omega arith)
raised-up (negsuc n) x y m em ex t ey h = absurd (false≢true (rw ey at t))

pub raised-down : (z x y : ℤ) (m : ℕ) → m ≡ mag x → x ≡ z → le_z (pos 0) y ≡ false → y ≡ z → mag z < 2147483648 → (2147483647 - m ≡ raised z) × (2147483647 - m < 4294967296)
unfolding raised
raised-down (pos n) x y m em ex t ey h = absurd (false≢true (sym (rw (ey, le-leb 0 n (omega arith)) at t)))
raised-down (negsuc n) x y m em ex t ey h = let e : m ≡ n = em ∙ ap mag ex in (omega arith, omega arith)

-- the same, moved up so far that a difference of two has room too
lifted : ℤ → ℕ
lifted (pos n) = 8589934592 + n
lifted (negsuc n) = 8589934591 - n

lifted_raised : (z : ℤ) → mag z < 2147483648 → lifted z ≡ raised z + 6442450944
unfolding lifted raised
lifted_raised (pos n) h = omega arith
lifted_raised (negsuc n) h = omega arith

lifted_le : (a b : ℤ) → mag a < 8589934592 → mag b < 8589934592 → le_z a b ≡ leb (lifted a) (lifted b)
unfolding lifted
lifted_le (pos a) (pos b) f g =
    tests_same (leb a b) (leb (8589934592 + a) (8589934592 + b))
    (λ t. let l = leb-true a b t in le-leb (8589934592 + a) (8589934592 + b) (omega arith))
    (λ t. let l = leb-true (8589934592 + a) (8589934592 + b) t in le-leb a b (omega arith))
lifted_le (pos a) (negsuc b) f g = sym (lt-leb (8589934592 + a) (8589934591 - b) (omega arith))
lifted_le (negsuc a) (pos b) f g = sym (le-leb (8589934591 - a) (8589934592 + b) (omega arith))
lifted_le (negsuc a) (negsuc b) f g =
    tests_same (leb b a) (leb (8589934591 - a) (8589934591 - b))
    (λ t. let l = leb-true b a t in le-leb (8589934591 - a) (8589934591 - b) (omega arith))
    (λ t. let l = leb-true (8589934591 - a) (8589934591 - b) t in le-leb b a (omega arith))

-- the difference of two naturals, by which is the larger
apart : (a b : ℕ) → a ≤ 4294967296 → b ≤ 4294967296
    → (lifted (cond (ltb a b) (negsuc (b - suc a)) (pos (a - b))) + b ≡ 8589934592 + a) × (mag (cond (ltb a b) (negsuc (b - suc a)) (pos (a - b))) < 8589934592)
unfolding lifted
apart a b f g =
    ⊎_elim
    (λ (y : ltb a b ≡ true). let l = ltb-true a b y in rw y (omega arith, omega arith))
    (λ (n : ltb a b ≡ false). let l = ltb-false a b n in rw n (omega arith, omega arith))
    (went (ltb a b))

lifted_minus : (q p : ℤ) → mag q < 2147483648 → mag p < 2147483648 → (lifted (q -ℤ p) + lifted p ≡ lifted q + 8589934592) × (mag (q -ℤ p) < 8589934592)
unfolding lifted
lifted_minus (pos a) (pos zero) f g = (omega arith, omega arith)
lifted_minus (pos a) (pos (suc b)) f g = let w = apart a (suc b) (omega arith) (omega arith) in (omega (arith, w.0), w.1)
lifted_minus (pos a) (negsuc b) f g = (omega arith, omega arith)
lifted_minus (negsuc a) (pos zero) f g = let w = apart 0 (suc a) (omega arith) (omega arith) in (omega (arith, w.0), w.1)
lifted_minus (negsuc a) (pos (suc b)) f g = (omega arith, omega arith)
lifted_minus (negsuc a) (negsuc b) f g = let w = apart (suc b) (suc a) (omega arith) (omega arith) in (omega (arith, w.0), w.1)

raised-small : (z : ℤ) → mag z < 2147483648 → raised z < 4294967296
unfolding raised
raised-small (pos n) h = omega arith
raised-small (negsuc n) h = omega arith

-- the step from v to z is above `high`, or below `low`
module _ (z v : ℤ) (fz : mag z < 2147483648) (fv : mag v < 2147483648) where
  pub step-above : (high : ℤ) → mag high < 2147483648 → ltb (raised v) (raised z + 2147483648 - raised high) ≡ not (le_z (z -ℤ v) high)
  step-above high fh =
      let d = lifted_minus z v fz fv in
      let a = lifted_raised z fz in
      let b = lifted_raised v fv in
      let c = lifted_raised high fh in
      rw (lifted_le (z -ℤ v) high d.1 (omega arith))
      (tests_same (ltb (raised v) (raised z + 2147483648 - raised high)) (not (leb (lifted (z -ℤ v)) (lifted high)))
      (λ t. let l = ltb-true (raised v) (raised z + 2147483648 - raised high) t in ap not (lt-leb (lifted (z -ℤ v)) (lifted high) (omega (arith, d.0))))
      (λ t. let l : lifted high < lifted (z -ℤ v) = simp says at t in lt-ltb (raised v) (raised z + 2147483648 - raised high) (omega (arith, d.0))))

  pub step-below : (low : ℤ) → mag low < 2147483648 → ltb (4294967295 - raised v) (raised low + 2147483647 - raised z) ≡ not (le_z low (z -ℤ v))
  step-below low fl =
      let d = lifted_minus z v fz fv in
      let a = lifted_raised z fz in
      let b = lifted_raised v fv in
      let c = lifted_raised low fl in
      let s = raised-small v fv in
      rw (lifted_le low (z -ℤ v) (omega arith) d.1)
      (tests_same (ltb (4294967295 - raised v) (raised low + 2147483647 - raised z)) (not (leb (lifted low) (lifted (z -ℤ v))))
      (λ t. let l = ltb-true (4294967295 - raised v) (raised low + 2147483647 - raised z) t in ap not (lt-leb (lifted low) (lifted (z -ℤ v)) (omega (arith, d.0))))
      (λ t. let l : lifted (z -ℤ v) < lifted low = simp says at t in lt-ltb (4294967295 - raised v) (raised low + 2147483647 - raised z) (omega (arith, d.0))))

-- the level in each stack
module _ (which vkind : ℕ) (value : ℤ) (begin end : ℕ) where
  pub level-end : which ≡ 0 → end ≡ level_of which vkind value begin end
  unfolding level_of
  level-end e = rw (eq-eqb which 0 e)

  module _ (n : which ≡ 0 → ⊥) where
    pub level-begin : which ≡ 1 → 65535 - begin ≡ level_of which vkind value begin end
    unfolding level_of
    level-begin e = rw (ne_eqb which 0 n, eq-eqb which 1 e)

    module _ (m : which ≡ 1 → ⊥) where
      pub level-text : (vkind ≡ 1 → ⊥) → 17179869184 ≡ level_of which vkind value begin end
      unfolding level_of
      level-text t = rw (ne_eqb which 0 n, ne_eqb which 1 m, ne_eqb vkind 1 t)

      -- x is the value, read back
      module _ (t : vkind ≡ 1) (x : ℤ) (ex : x ≡ value) (r : ℕ) (er : r ≡ raised x) where
        pub level-value : which ≡ 2 → r ≡ level_of which vkind value begin end
        unfolding level_of
        level-value e = rw (ne_eqb which 0 n, ne_eqb which 1 m, eq-eqb vkind 1 t, eq-eqb which 2 e) (er ∙ ap raised ex)

        pub level-turned : (which ≡ 2 → ⊥) → 4294967295 - r ≡ level_of which vkind value begin end
        unfolding level_of
        level-turned e = rw (ne_eqb which 0 n, ne_eqb which 1 m, eq-eqb vkind 1 t, ne_eqb which 2 e) (ap (λ k. 4294967295 - k) (er ∙ ap raised ex))

-- the bound in each
module _ (which : ℕ) (z low high : ℤ) (day : ℕ) where
  pub bound_end : which ≡ 0 → day + 1 ≡ bound_of which z low high day
  unfolding bound_of
  bound_end e = rw (eq-eqb which 0 e)

  module _ (n : which ≡ 0 → ⊥) where
    pub bound_begin : which ≡ 1 → 65536 - day ≡ bound_of which z low high day
    unfolding bound_of
    bound_begin e = rw (ne_eqb which 0 n, eq-eqb which 1 e)

    -- x and y are two of the numbers, read back
    module _ (m : which ≡ 1 → ⊥) (x y : ℤ) (r s d : ℕ) (er : r ≡ raised x) (es : s ≡ raised y) where
      pub bound_value : which ≡ 2 → x ≡ z → y ≡ high → d ≡ r + 2147483648 - s → d ≡ bound_of which z low high day
      unfolding bound_of
      bound_value e ex ey ed =
          let a : r ≡ raised z = er ∙ ap raised ex in
          let b : s ≡ raised high = es ∙ ap raised ey in
          rw (ne_eqb which 0 n, ne_eqb which 1 m, eq-eqb which 2 e) (omega arith)

      pub bound_turned : (which ≡ 2 → ⊥) → x ≡ low → y ≡ z → d ≡ r + 2147483647 - s → d ≡ bound_of which z low high day
      unfolding bound_of
      bound_turned e ex ey ed =
          let a : r ≡ raised low = er ∙ ap raised ex in
          let b : s ≡ raised z = es ∙ ap raised ey in
          rw (ne_eqb which 0 n, ne_eqb which 1 m, ne_eqb which 2 e) (omega arith)

-- a wrong step from v, a number, to z: v lies below one of the two bounds
pub wrong-levels : (vkind : ℕ) (v z low high : ℤ) (begin end day : ℕ) → mag v < 2147483648 → mag z < 2147483648 → mag low < 2147483648 → mag high < 2147483648
    → eqb vkind 1 && not (le_z low (z -ℤ v) && le_z (z -ℤ v) high) ≡ (ltb (level_of 2 vkind v begin end) (bound_of 2 z low high day) || ltb (level_of 3 vkind v begin end) (bound_of 3 z low high day))
unfolding level_of bound_of
wrong-levels vkind v z low high begin end day fv fz fl fh =
    ⊎_elim
    (λ (y : eqb vkind 1 ≡ true). rw (y, step-above z v fz fv high fh, step-below z v fz fv low fl) (apart-tests (le_z low (z -ℤ v)) (le_z (z -ℤ v) high)))
    (λ (n : eqb vkind 1 ≡ false).
    let sz = raised-small z fz in
    let sl = raised-small low fl in
    let a : ltb 17179869184 (raised z + 2147483648 - raised high) ≡ false = le-ltb 17179869184 (raised z + 2147483648 - raised high) (omega arith) in
    let b : ltb 17179869184 (raised low + 2147483647 - raised z) ≡ false = le-ltb 17179869184 (raised low + 2147483647 - raised z) (omega arith) in
    rw (n, a, b))
    (went (eqb vkind 1))
  where
    apart-tests : (a b : Bool) → not (a && b) ≡ (not b || not a)
    apart-tests true true = refl
    apart-tests true false = refl
    apart-tests false true = refl
    apart-tests false false = refl
