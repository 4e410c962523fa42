-- How the way along the marked records is laid from the last record down.
use mathlib.Core.Path.{◌≡◌, sym, ◌∙◌, ap}
use mathlib.Core.Logic.{⊎_elim}
use mathlib.Core.Bool.{Bool, cond}
use mathlib.Core.List.{List}
use Prim.Native.Nat.{ℕ, suc, ◌-◌, ◌≤◌, ◌<◌}
use native.Mathlib.Numerals.{add-one}
use native.Mathlib.Omega.{arith}
use lib.Dec.{eqb}
use lib.ListN.{length, get_or, set}
use lib.Seq.{get_or-set_same, get_or-set_other}
use Rattle.meaning.specs.Walk.{on_found, Found}
use Rattle.meaning.proofs.Basics.{went, le_or_lt}
use Rattle.meaning.proofs.Loops.{first-yes, first-no, first-end}
use Rattle.marks.specs.Marks.{Marks, after}
use Rattle.prepare.specs.Holders.{Skips}

module _ (passes : ℕ → Bool) (n : ℕ) where
  -- what was found, n where nothing was
  abbrev nearest : Found → ℕ
  nearest x = on_found x (λ v. v) n

  after-end : after passes n n ≡ n
  unfolding after
  after-end = rw (first-end passes n n (omega arith))

  -- the nearest from i on is i, or the nearest past it
  after-by : (i : ℕ) → i < n → after passes i n ≡ cond (passes i) i (after passes (suc i) n)
  unfolding after
  after-by i h =
      ⊎_elim
      (λ y. rw y (ap nearest (first-yes passes n i h y)))
      (λ z. rw z (rw add-one at (ap nearest (first-no passes n i h z))))
      (went (passes i))

  -- the records from i on have their next ones, and `at` is the nearest from i on
  pub record Laid (i at : ℕ) (next : List ℕ) : Type 0 where
    pub near : at ≡ after passes i n
    pub far : (k : ℕ) → i ≤ k → k < n → get_or next k 0 ≡ after passes (suc k) n

  pub laid_none : (next : List ℕ) → Laid n n next
  laid_none next = record { near = sym after-end; far = λ k a b. absurd (omega arith) }

  module _ (i at : ℕ) (next : List ℕ) (s : Laid i at next) where
    pub laid-store : (marks : List ℕ) → Marks passes n marks → 0 < i → i ≤ n → n ≤ length next
        → (near : ℕ) → near ≡ cond (eqb (get_or marks (i - 1) 0) 1) (i - 1) at → Laid (i - 1) near (set next (i - 1) at)
    laid-store marks m h l room near e =
        let back : suc (i - 1) ≡ i = omega arith in
        let past : at ≡ after passes (suc (i - 1)) n = s.near ∙ ap (λ x. after passes x n) (sym back) in
        record {
          near = e ∙ rw (m.mark (i - 1) (omega arith), past) (sym (after-by (i - 1) (omega arith)));
          far = λ k a b. ⊎_elim
              (λ (x : i ≤ k). get_or-set_other next (i - 1) k at 0 (λ q. omega arith) ∙ s.far k x b)
              (λ (x : k < i). let q : k ≡ i - 1 = omega arith in rw q (get_or-set_same next (i - 1) at 0 (omega arith) ∙ past))
              (le_or_lt i k);
        }

    pub laid-skips : i ≤ 0 → n ≤ length next → (start : ℕ) → start ≡ at → Skips passes n start next
    laid-skips h room start e =
        let z : i ≡ 0 = omega arith in
        record { room = room; start_is = e ∙ s.near ∙ ap (λ x. after passes x n) z; next_is = λ k b. s.far k (omega arith) b }

-- the number of records, said in two ways
pub skips-by : (passes : ℕ → Bool) (k n start : ℕ) (marks next : List ℕ) → k ≡ n → Marks passes k marks
    → (Marks passes n marks → Skips passes n start next) → Skips passes k start next
skips-by passes k n start marks next e m s = rw e (s (rw e at m))
