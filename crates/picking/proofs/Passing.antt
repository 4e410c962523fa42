-- How many of the first entries of an order pass a test.
use mathlib.Core.Path.{◌≡◌}
use mathlib.Core.Logic.{⊎_elim}
use mathlib.Core.Bool.{Bool, true, false}
use mathlib.Core.List.{List}
use Prim.Native.Nat.{ℕ, zero, suc, ◌≤◌, ◌<◌}
use native.Mathlib.Nat.{eq-or-lt_of_le}
use native.Mathlib.Omega.{arith}
use Rattle.meaning.proofs.Basics.{went, le_or_lt}
use Rattle.passes.specs.Passes.{at}
use Rattle.picking.specs.Picked.{passing}

-- entry j is the one behind l that pass, and passes
pub record Stands (test : ℕ → Bool) (order : List ℕ) (i l j : ℕ) : Type 0 where
  pub below : j < i
  pub passes : test (at order j) ≡ true
  pub behind : passing test order j ≡ l

module _ (test : ℕ → Bool) (order : List ℕ) where
  pub passing-hit : (i : ℕ) → test (at order i) ≡ true → passing test order (suc i) ≡ suc (passing test order i)
  unfolding passing
  passing-hit i e = rw e

  pub passing-miss : (i : ℕ) → test (at order i) ≡ false → passing test order (suc i) ≡ passing test order i
  unfolding passing
  passing-miss i e = rw e

  -- one entry more is no fewer
  passing-next : (i : ℕ) → passing test order i ≤ passing test order (suc i)
  passing-next i = ⊎_elim (λ y. omega (arith, passing-hit i y)) (λ z. omega (arith, passing-miss i z)) (went (test (at order i)))

  -- no more pass than there are
  pub passing-most : (i : ℕ) → passing test order i ≤ i
  unfolding passing
  passing-most zero = omega arith
  passing-most (suc i) =
      let rest = passing-most i in
      ⊎_elim (λ y. omega (arith, passing-hit i y)) (λ z. omega (arith, passing-miss i z)) (went (test (at order i)))

  -- further on no fewer pass
  pub passing-rises : (i j : ℕ) → i ≤ j → passing test order i ≤ passing test order j
  passing-rises i zero h = let e : i ≡ 0 = omega arith in rw e (omega arith)
  passing-rises i (suc j) h =
      ⊎_elim
      (λ (e : i ≡ suc j). rw e (omega arith))
      (λ (l : i < suc j). omega (arith, passing-rises i j (omega arith), passing-next j))
      (eq-or-lt_of_le h)

  -- behind one that passes more do
  pub passing-behind : (j i : ℕ) → j < i → test (at order j) ≡ true → passing test order j < passing test order i
  passing-behind j i h e = omega (arith, passing-hit j e, passing-rises (suc j) i (omega arith))

  -- for each number below how many pass there is the one that stands behind so many
  pub passing-at : (i l : ℕ) → l < passing test order i → (j : ℕ) × Stands test order i l j
  unfolding passing
  passing-at zero l h = absurd (omega arith)
  passing-at (suc i) l h =
      ⊎_elim
      (λ y.
      ⊎_elim
      (λ (m : passing test order i ≤ l). (i, record { below = omega arith; passes = y; behind = omega (arith, passing-hit i y) }))
      (λ (m : l < passing test order i). let s = passing-at i l m in (s.0, record { below = omega (arith, s.1.below); passes = s.1.passes; behind = s.1.behind }))
      (le_or_lt (passing test order i) l))
      (λ z.
      let s = passing-at i l (omega (arith, passing-miss i z)) in
      (s.0, record { below = omega (arith, s.1.below); passes = s.1.passes; behind = s.1.behind }))
      (went (test (at order i)))
