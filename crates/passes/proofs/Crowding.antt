-- How the counting of records by key goes on.
use mathlib.Core.Path.{◌≡◌, refl, sym, ◌∙◌}
use mathlib.Core.Bool.{Bool, true, false, cond}
use mathlib.Core.List.{List}
use mathlib.Core.Logic.{⊎_elim}
use Prim.Native.Nat.{ℕ, zero, suc, ◌+◌, ◌≤◌, ◌<◌}
use native.Mathlib.Numerals.{add-one}
use native.Mathlib.Omega.{arith}
use lib.Dec.{eqb}
use lib.ListN.{length, get_or, set}
use lib.Seq.{get_or-set_same, get_or-set_other}
use borrow.Author.Tests.{eq-eqb, ne_eqb}
use Rattle.std.proofs.lemmas.Bool.{cases_eq}
use Rattle.meaning.specs.Walk.{count}
use Rattle.meaning.proofs.Basics.{went}
use Rattle.passes.specs.Given.{Cleared}
use Rattle.passes.specs.Passes.{at}

-- one more in either case
one_more : (b : Bool) (n : ℕ) → cond b (suc (suc n)) (suc n) ≡ suc (cond b (suc n) n)
one_more true n = refl
one_more false n = refl

module _ (f : ℕ → Bool) where
  -- a walk counts no more than it passes over
  pub count_most : (i n : ℕ) → count f i n ≤ n
  unfolding count
  count_most i zero = omega arith
  count_most i (suc n) = ⊎_elim
      (λ e. let z = count_most (suc i) n in rw e (omega arith))
      (λ e. let z = count_most (suc i) n in rw e (omega arith))
      (went (f i))

  -- one number more at the far end
  count-on : (i n j : ℕ) → j ≡ i + n → f j ≡ true → count f i (suc n) ≡ suc (count f i n)
  unfolding count
  count-on i zero j q e = let z : j ≡ i = omega arith in let y : f i ≡ true = rw z at e in rw y
  count-on i (suc n) j q e = rw (count-on (suc i) n j (omega arith) e) (one_more (f i) (count f (suc i) n))

  count-off : (i n j : ℕ) → j ≡ i + n → f j ≡ false → count f i (suc n) ≡ count f i n
  unfolding count
  count-off i zero j q e = let z : j ≡ i = omega arith in let y : f i ≡ false = rw z at e in rw y
  count-off i (suc n) j q e = rw (count-off (suc i) n j (omega arith) e)

-- how many of the records below i have the key k
abbrev pub having : List ℕ → ℕ → ℕ → ℕ
having key i k = count (λ x. eqb (get_or key x 0) k) 0 i

-- the records below i are counted, and no key has too many
pub record Counted (key : List ℕ) (room most i : ℕ) (tally : List ℕ) : Type 0 where
  pub tallied : (k : ℕ) → k < room → at tally k ≡ having key i k
  pub few : (k : ℕ) → k < room → at tally k ≤ most

module _ (key : List ℕ) (room most : ℕ) where
  pub counted_none : (tally : List ℕ) → Cleared tally room → Counted key room most 0 tally
  unfolding count
  counted_none tally z = record { tallied = z.zeros; few = λ k h. omega (arith, z.zeros k h) }

  module _ (i : ℕ) (tally : List ℕ) (s : Counted key room most i tally) where
    -- a count is no more than the records counted
    pub counted-fits : (k : ℕ) → k < room → at tally k ≤ i
    counted-fits k h = let z = count_most (λ x. eqb (get_or key x 0) k) 0 i in omega (arith, s.tallied k h)

    -- the record at i has no key below room
    pub counted_skip : room ≤ at key i → Counted key room most (i + 1) tally
    counted_skip l =
        record {
          tallied = λ k h.
              let e : eqb (get_or key i 0) k ≡ false = ne_eqb (get_or key i 0) k (λ e. omega arith) in
              rw (add-one, count-off (λ x. eqb (get_or key x 0) k) 0 i i (omega arith) e) (s.tallied k h);
          few = s.few;
        }

    -- the record at i has the key k
    pub counted-more : (k : ℕ) → k ≡ at key i → k < length tally → at tally k + 1 ≤ most → Counted key room most (i + 1) (set tally k (at tally k + 1))
    counted-more k ek kt cm =
        let c = at tally k + 1 in
        let new = get_or-set_same tally k c 0 kt in
        let last : i ≡ 0 + i = omega arith in
        record {
          tallied = λ j h. ⊎_elim
              (λ (f : j ≡ k).
              let e : eqb (get_or key i 0) k ≡ true = eq-eqb (get_or key i 0) k (sym ek) in
              let z : k < room = rw f at h in
              rw (f, new, add-one i, count-on (λ x. eqb (get_or key x 0) k) 0 i i last e) (omega (arith, s.tallied k z)))
              (λ f.
              let e : eqb (get_or key i 0) j ≡ false = ne_eqb (get_or key i 0) j (λ e. f (sym e ∙ sym ek)) in
              rw (get_or-set_other tally k j c 0 f, add-one i, count-off (λ x. eqb (get_or key x 0) j) 0 i i last e) (s.tallied j h))
              (cases_eq j k);
          few = λ j h. ⊎_elim
              (λ (f : j ≡ k). rw (f, new) cm)
              (λ f. rw (get_or-set_other tally k j c 0 f) (s.few j h))
              (cases_eq j k);
        }

    -- every record is counted
    pub counted-end : (n : ℕ) → i ≡ n → (k : ℕ) → k < room → having key n k ≤ most
    counted-end n e k h = let z = s.tallied k h in let y = s.few k h in rw (← e) (omega arith)
