-- Counts: what a count above none and a count above one tell, and that a stricter test counts no more.
use mathlib.Core.Path.{◌≡◌, refl}
use mathlib.Core.Logic.{⊎_elim}
use mathlib.Core.Bool.{Bool, true}
use Prim.Native.Nat.{ℕ, zero, suc, ◌≤◌, ◌<◌}
use native.Mathlib.Nat.{eq-or-lt_of_le}
use native.Mathlib.Omega.{arith}
use Rattle.std.specs.Prelude.{Some, None}
use Rattle.meaning.specs.Walk.{count, first, Found}
use Rattle.meaning.proofs.Basics.{went, le_or_lt, clear, never}
use Rattle.meaning.proofs.Walks.{Passes, Lowest, NonePass, first_found, first-nothing}

-- two of the numbers i, i + 1, .., n of them, pass
pub record Two (f : ℕ → Bool) (i n : ℕ) : Type 0 where
  pub one : ℕ
  pub other : ℕ
  pub less : one < other
  pub one_passes : Passes f i n one
  pub other_passes : Passes f i n other

module _ (f : ℕ → Bool) where
  -- where one passes, the count is above none
  pub counted : (i n k : ℕ) → Passes f i n k → 0 < count f i n
  unfolding count
  counted i zero k p = absurd (omega arith)
  counted i (suc n) k p =
      ⊎_elim
      (λ y. rw y (omega arith))
      (λ z. rw z
      (⊎_elim
      (λ e. absurd (clear p.passes (rw e at z)))
      (λ l. counted (suc i) n k (record { from = l; below = omega arith; passes = p.passes }))
      (eq-or-lt_of_le p.from)))
      (went (f i))

  -- where the count is above none, one passes
  pub some : (i n : ℕ) → 0 < count f i n → (k : ℕ) × Passes f i n k
  unfolding count
  some i zero h = absurd (omega arith)
  some i (suc n) h =
      ⊎_elim
      (λ y. (i, record { from = omega arith; below = omega arith; passes = y }))
      (λ z. let s = some (suc i) n (rw z at h) in (s.0, record { from = omega arith; below = omega arith; passes = s.1.passes }))
      (went (f i))

  -- where the count is not, none does
  pub none : (i n : ℕ) → count f i n < 1 → NonePass f i n
  none i n h k a b = never (f k) (λ y. omega (arith, counted i n k (record { from = a; below = b; passes = y })))

  -- where none does, the count is not
  pub uncounted : (i n : ℕ) → ((k : ℕ) → f k ≡ true → ⊥) → count f i n < 1
  uncounted i n h = ⊎_elim (λ l. let s = some i n l in absurd (h s.0 s.1.passes)) (λ l. l) (le_or_lt 1 (count f i n))

  -- where the count is above one, two pass
  pub two : (i n : ℕ) → 1 < count f i n → Two f i n
  unfolding count
  two i zero h = absurd (omega arith)
  two i (suc n) h =
      ⊎_elim
      (λ y.
      let more : 1 < suc (count f (suc i) n) = rw y at h in
      let s = some (suc i) n (omega arith) in
      record {
        one = i;
        other = s.0;
        less = s.1.from;
        one_passes = record { from = omega arith; below = omega arith; passes = y };
        other_passes = record { from = omega arith; below = omega arith; passes = s.1.passes };
      })
      (λ z.
      let t = two (suc i) n (rw z at h) in
      record {
        one = t.one;
        other = t.other;
        less = t.less;
        one_passes = record { from = omega arith; below = omega arith; passes = t.one_passes.passes };
        other_passes = record { from = omega arith; below = omega arith; passes = t.other_passes.passes };
      })
      (went (f i))

  -- of those that pass, one is the lowest
  pub lowest-of : (i n k : ℕ) → Passes f i n k → (j : ℕ) × Lowest f i n j
  lowest-of i n k s = go (first f i n) refl
    where
      go : (x : Found) → first f i n ≡ x → (j : ℕ) × Lowest f i n j
      go (Some j) e = (j, first_found f i n j e)
      go None e = absurd (clear s.passes (first-nothing f i n e k s.from s.below))

-- what passes f passes g, so that no more pass f
pub count_less : (f g : ℕ → Bool) → ((k : ℕ) → f k ≡ true → g k ≡ true) → (i n : ℕ) → count f i n ≤ count g i n
unfolding count
count_less f g h i zero = omega arith
count_less f g h i (suc n) =
    let rest = count_less f g h (suc i) n in
    ⊎_elim
    (λ y.
    let a : count f i (suc n) ≡ suc (count f (suc i) n) = rw y in
    let b : count g i (suc n) ≡ suc (count g (suc i) n) = rw (h i y) in
    omega arith)
    (λ z.
    let a : count f i (suc n) ≡ count f (suc i) n = rw z in
    ⊎_elim
    (λ y. let b : count g i (suc n) ≡ suc (count g (suc i) n) = rw y in omega arith)
    (λ x. let b : count g i (suc n) ≡ count g (suc i) n = rw x in omega arith)
    (went (g i)))
    (went (f i))
