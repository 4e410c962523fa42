-- What is done with one row, a law for each way out of the code: the answer, and the marks that are left.
use mathlib.Core.Path.{◌≡◌, refl, sym, ◌∙◌, ap}
use mathlib.Core.Logic.{⊎_elim}
use mathlib.Core.Bool.{Bool, true, false, ◌&&◌, ◌||◌, not, cond, or-false, false≢true}
use mathlib.Core.List.{List}
use Prim.Native.Nat.{ℕ, ◌<◌}
use lib.Dec.{eqb}
use lib.ListN.{length, set}
use lib.Seq.{get_or-set_same, get_or-set_other}
use borrow.Author.Tests.{eqb-true, eqb-false, eq-eqb, ne_eqb}
use Rattle.meaning.proofs.Basics.{went, and_same, or_r}
use Rattle.marks.specs.Marks.{marked}
use Rattle.day.specs.Ready.{counted, referring}
use Rattle.day.specs.Row.{only, Tallied, outside, wrong, keeps, row_breaks, row_keeps, Met}

-- a row is settled if its number is outside, its mode asks no more, or it has not one value only
abbrev pub settled : Bool → Bool → Bool → Bool
settled out counts one = out || counts || not one

settled_answer : (o m k r s : Bool) → settled o m k ≡ true → (o || (k && cond m false (cond r (not s) s))) ≡ o
settled_answer true m k r s e = refl
settled_answer false true true r s e = refl
settled_answer false true false r s e = refl
settled_answer false false true r s e = absurd (false≢true e)
settled_answer false false false r s e = refl

settled_keeps : (o m k r q : Bool) → settled o m k ≡ true → (not m && not r && (not o && (k && q))) ≡ false
settled_keeps o true k r q e = refl
settled_keeps o false k true q e = refl
settled_keeps true false k false q e = refl
settled_keeps false false false false q e = refl
settled_keeps false false true false q e = absurd (false≢true e)

open_answer : (o m k r s : Bool) → settled o m k ≡ false → (o || (k && cond m false (cond r (not s) s))) ≡ cond r (not s) s
open_answer true m k r s e = absurd (false≢true (sym e))
open_answer false true k r s e = absurd (false≢true (sym e))
open_answer false false false r s e = absurd (false≢true (sym e))
open_answer false false true r s e = refl

open_keeps : (o m k r q : Bool) → settled o m k ≡ false → (not m && not r && (not o && (k && q))) ≡ (not r && q)
open_keeps true m k r q e = absurd (false≢true (sym e))
open_keeps false true k r q e = absurd (false≢true (sym e))
open_keeps false false false r q e = absurd (false≢true (sym e))
open_keeps false false true r q e = refl

-- one mark more
pub set_marked : (marks : List ℕ) (x : ℕ) → x < length marks → (y : ℕ) → marked (set marks x 1) y ≡ (marked marks y || eqb x y)
set_marked marks x h y =
    ⊎_elim
    (λ i. let e : x ≡ y = eqb-true x y i in
    rw (sym e, get_or-set_same marks x 1 0 h) (sym (or_r (marked marks x) (eqb x x) (eq-eqb x x refl))))
    (λ i. rw (get_or-set_other marks x y 1 0 (λ q. eqb-false x y i (sym q)), i) (sym (or-false (marked marks y))))
    (went (eqb x y))

module _ (p : ℕ → Bool) (n : ℕ) (rep : ℕ → ℕ) (mode low high : ℕ) (row : ℕ → Bool) (v : ℕ) (seen : List ℕ) where
  -- the version is not present
  pub met_absent : p v ≡ false → Met p n rep mode low high row v seen seen false
  met_absent e = record { answers = rw e; marks = λ y. rw e (sym (or-false (marked seen y))) }

  -- it is, and c of its row are, x standing for the last
  module _ (e : p v ≡ true) (c x : ℕ) (found : Tallied p n row rep c x) where
    only-by : (test : ℕ → Bool) → only p n row rep test ≡ (eqb c 1 && test x)
    unfolding only
    only-by test = rw (sym found.counts) (and_same (eqb c 1) _ (test x) (λ i. found.stands (eqb-true c 1 i) test))

    breaks-by : p v && row_breaks p n rep mode low high row (marked seen)
        ≡ (outside low high c || (eqb c 1 && cond (eqb mode counted) false (cond (eqb mode referring) (not (marked seen x)) (marked seen x))))
    unfolding row_breaks wrong
    breaks-by = rw (e, sym found.counts) (ap (λ b. outside low high c || b) (only-by (λ z. wrong mode (marked seen z))))

    keeps-by : (y : ℕ) → p v && row_keeps p n rep mode low high row y ≡ (not (eqb mode counted) && not (eqb mode referring) && (not (outside low high c) && (eqb c 1 && eqb x y)))
    unfolding row_keeps keeps
    keeps-by y = rw (e, sym found.counts) (ap (λ b. keeps mode && (not (outside low high c) && b)) (only-by (λ z. eqb z y)))

    pub met_settled : settled (outside low high c) (eqb mode counted) (eqb c 1) ≡ true → Met p n rep mode low high row v seen seen (outside low high c)
    met_settled s =
        record {
          answers = sym (breaks-by ∙ settled_answer (outside low high c) (eqb mode counted) (eqb c 1) (eqb mode referring) (marked seen x) s);
          marks = λ y. sym (ap (λ b. marked seen y || b) (keeps-by y ∙ settled_keeps (outside low high c) (eqb mode counted) (eqb c 1) (eqb mode referring) (eqb x y) s) ∙ or-false (marked seen y));
        }

    module _ (s : settled (outside low high c) (eqb mode counted) (eqb c 1) ≡ false) where
      answer-by : p v && row_breaks p n rep mode low high row (marked seen) ≡ cond (eqb mode referring) (not (marked seen x)) (marked seen x)
      answer-by = breaks-by ∙ open_answer (outside low high c) (eqb mode counted) (eqb c 1) (eqb mode referring) (marked seen x) s

      kept_by : (y : ℕ) → marked seen y || (p v && row_keeps p n rep mode low high row y) ≡ (marked seen y || (not (eqb mode referring) && eqb x y))
      kept_by y = ap (λ b. marked seen y || b) (keeps-by y ∙ open_keeps (outside low high c) (eqb mode counted) (eqb c 1) (eqb mode referring) (eqb x y) s)

      pub met_referring : mode ≡ referring → Met p n rep mode low high row v seen seen (not (marked seen x))
      met_referring i =
          let r = eq-eqb mode referring i in
          record {
            answers = sym (answer-by ∙ rw r);
            marks = λ y. sym (kept_by y ∙ rw r (or-false (marked seen y)));
          }

      pub met_distinct : (mode ≡ referring → ⊥) → x < length seen → Met p n rep mode low high row v seen (set seen x 1) (marked seen x)
      met_distinct i room =
          let r = ne_eqb mode referring i in
          record {
            answers = sym (answer-by ∙ rw r);
            marks = λ y. set_marked seen x room y ∙ sym (kept_by y ∙ rw r);
          }
