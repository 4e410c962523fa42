-- What is done with one row, a law for each way out of the code: the answer, and what is left in the columns.
use mathlib.Core.Path.{◌≡◌, refl, sym, ◌∙◌, ap}
use mathlib.Core.Bool.{Bool, true, false, ◌&&◌, ◌||◌, cond, or-false}
use mathlib.Core.List.{List}
use Prim.Native.Nat.{ℕ, ◌≤◌}
use lib.Dec.{eqb}
use native.Mathlib.Omega.{arith}
use lib.ListN.{length, get_or, replicate, length-replicate}
use Rattle.meaning.specs.Block.{limit}
use Rattle.meaning.proofs.Basics.{or_r}
use Rattle.marks.specs.Marks.{marked}
use Rattle.day.specs.Row.{Fits}
use Rattle.day.proofs.Settling.{zeros}
use Rattle.sharing.specs.Row.{foreign, asks, shows, lacking, Laid, Claimed, Marked, Met, Room, Unowned}

pub room_of : (n : ℕ) (last lower ends reps marks : List ℕ) → Fits n last lower ends reps marks → (column : List ℕ) → n ≤ length column → Room n lower ends reps column
room_of n last lower ends reps marks s column h =
    record {
      lower_room = s.lower_room;
      end_room = s.end_room;
      rep_room = s.rep_room;
      column_room = h;
      rep_low = s.rep_low;
    }

-- an entry that is 1 or as it was
seen_by : (b : Bool) (k : ℕ) → eqb (cond b 1 k) 1 ≡ (eqb k 1 || b)
seen_by true k = sym (or_r (eqb k 1) true refl)
seen_by false k = sym (or-false (eqb k 1))

-- a test behind the presence of the version
pub absent_test : (a b : Bool) → a ≡ false → false ≡ (a && b)
absent_test a b e = rw e

pub present-test : (a b c : Bool) → a ≡ true → c ≡ b → c ≡ (a && b)
present-test a b c e i = rw e i

module _ (p : ℕ → Bool) (n : ℕ) (rep : ℕ → ℕ) (row : ℕ → Bool) (v : ℕ) (marks : List ℕ) where
  -- the version is not present
  pub marked-absent : p v ≡ false → Marked p n rep row v marks marks
  marked-absent e = record { seen = λ y. rw e (sym (or-false (marked marks y))) }

  -- it is, and its values are marked
  pub marked-present : p v ≡ true → (marks' : List ℕ) → Laid p n rep row 1 marks marks' → Marked p n rep row v marks marks'
  unfolding Laid
  marked-present e marks' l = record { seen = λ y. ap (λ k. eqb k 1) (l y) ∙ seen_by (shows p n rep row y) (get_or marks y 0) ∙ rw e }

module _ (p : ℕ → Bool) (n : ℕ) (rep : ℕ → ℕ) (row : ℕ → Bool) (needy : Bool) (v mine : ℕ) (owners : List ℕ) where
  -- the version is not present
  pub met_absent : p v ≡ false → Met p n rep row needy v mine owners owners false
  met_absent e =
      record {
        answers = absent_test (p v) (lacking p n rep row needy || asks p n rep row (foreign owners mine)) e;
        left = λ _ y. rw e;
      }

  -- it is, and the walk down its row gave the answer
  pub met_claimed : p v ≡ true → (owners' : List ℕ) (answer : Bool) → Claimed p n rep row needy mine owners owners' answer → Met p n rep row needy v mine owners owners' answer
  unfolding Laid
  met_claimed e owners' answer s = record { answers = present-test (p v) _ answer e s.answers; left = λ z y. rw e (s.left z y) }

-- fresh entries have no holder
pub unowned : {n : ℕ} → n ≤ limit → Unowned n (replicate limit 0)
unowned h = record { room = omega (arith, length-replicate {A = ℕ} limit 0); none = zeros limit }
