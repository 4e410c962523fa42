-- How a column is filled from the front: below i each entry is as asked, and one more is stored.
use mathlib.Core.Path.{◌≡◌}
use mathlib.Core.Bool.{Bool}
use mathlib.Core.List.{List}
use Prim.Native.Nat.{ℕ, ◌+◌, ◌≤◌, ◌<◌}
use native.Mathlib.Omega.{arith}
use lib.Dec.{eqb}
use lib.ListN.{length, get_or, set}
use lib.Seq.{get_or-set_same, get_or-set_other}
use borrow.Author.Count.{below_more}
use Rattle.marks.specs.Marks.{Marks}

-- below i each entry x, at k, is as asked
pub record Filled (is : ℕ → ℕ → Type 0) (i : ℕ) (column : List ℕ) : Type 0 where
  pub entry : (k : ℕ) → k < i → is k (get_or column k 0)

module _ (is : ℕ → ℕ → Type 0) where
  pub filled_none : (column : List ℕ) → Filled is 0 column
  filled_none column = record { entry = λ k h. absurd (omega arith) }

  pub filled-store : {i : ℕ} {column : List ℕ} → Filled is i column → i < length column → (x : ℕ) → is i x → Filled is (i + 1) (set column i x)
  filled-store {i} {column} f h x e =
      record {
        entry = below_more (λ k. is k (get_or (set column i x) k 0)) i
            (λ k l. rw (get_or-set_other column i k x 0 (λ p. omega arith)) (f.entry k l))
            (rw (get_or-set_same column i x 0 h) e);
      }

-- x is the mark of k
abbrev pub Marked : (ℕ → Bool) → ℕ → ℕ → Type 0
Marked passes k x = eqb x 1 ≡ passes k

pub filled-marks : (passes : ℕ → Bool) (n i : ℕ) (marks : List ℕ) → Filled (Marked passes) i marks → n ≤ i → n ≤ length marks → Marks passes n marks
filled-marks passes n i marks f h l = record { room = l; mark = λ k b. f.entry k (omega arith) }
