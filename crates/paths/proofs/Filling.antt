-- How marks are made from the front: below i each number has its mark, and one more is stored.
use mathlib.Core.Path.{◌≡◌, ◌∙◌}
use mathlib.Core.Bool.{Bool}
use mathlib.Core.List.{List}
use Prim.Native.Nat.{ℕ, ◌+◌, ◌≤◌, ◌<◌}
use native.Mathlib.Omega.{arith}
use lib.Dec.{eqb}
use lib.ListN.{length, set, length-set}
use lib.Seq.{get_or-set_same, get_or-set_other}
use borrow.Author.Count.{below_more}
use Rattle.marks.specs.Marks.{marked, Marks}

pub marks-none : (passes : ℕ → Bool) (marks : List ℕ) → Marks passes 0 marks
marks-none passes marks = record { room = omega arith; mark = λ k h. absurd (omega arith) }

pub marks-more : {passes : ℕ → Bool} {i : ℕ} {marks : List ℕ} → Marks passes i marks → i < length marks → (x : ℕ) → eqb x 1 ≡ passes i → Marks passes (i + 1) (set marks i x)
marks-more {passes} {i} {marks} m h x e =
    record {
      room = simp length-set (omega arith);
      mark = below_more (λ k. marked (set marks i x) k ≡ passes k) i
          (λ k l. rw (get_or-set_other marks i k x 0 (λ p. omega arith)) (m.mark k l))
          (rw (get_or-set_same marks i x 0 h) e);
    }

-- the marks of as many numbers as have been passed
pub marks-all : {passes : ℕ → Bool} {i : ℕ} {marks : List ℕ} (n : ℕ) → Marks passes i marks → n ≤ i → Marks passes n marks
marks-all n m h = record { room = omega (arith, m.room); mark = λ k l. m.mark k (omega arith) }

-- marks of a test are marks of any test that is equal to it
pub marks-as : {f : ℕ → Bool} {n : ℕ} {marks : List ℕ} (g : ℕ → Bool) → Marks f n marks → ((k : ℕ) → f k ≡ g k) → Marks g n marks
marks-as g m h = record { room = m.room; mark = λ k l. m.mark k l ∙ h k }
