-- How a pass that chains records goes on: from an empty chain, past a record that is left out, and by a record that is added.
use mathlib.Core.Path.{◌≡◌, sym, ◌∙◌, ap}
use mathlib.Core.Logic.{⊎_elim}
use mathlib.Core.Bool.{Bool, true, false}
use mathlib.Core.List.{List}
use Prim.Native.Nat.{ℕ, ◌+◌, ◌%◌, ◌≤◌, ◌<◌}
use native.Mathlib.Nat.{mod-lt}
use native.Mathlib.Numerals.{add-one}
use native.Mathlib.Omega.{arith}
use lib.Dec.{eqb}
use lib.ListN.{length, get_or, set, length-set, replicate, get_or-replicate}
use lib.Seq.{get_or-set_same, get_or-set_other}
use borrow.Author.Count.{below_more}
use Rattle.meaning.proofs.Basics.{went, clear, never, le_or_lt}
use Rattle.meaning.proofs.Says.{says}
use Rattle.columns.specs.Chains.{past_last, keyed, Chained, Grouped}

-- one number more, of the chain or not
past_more : (m : ℕ → Bool) (t : ℕ) → m t ≡ true → past_last m (t + 1) ≡ t + 1
unfolding past_last
past_more m t e = rw (add-one t, e)

past_same : (m : ℕ → Bool) (t : ℕ) → m t ≡ false → past_last m (t + 1) ≡ past_last m t
unfolding past_last
past_same m t e = rw (add-one t, e)

module _ (room : ℕ) (kinds keys : List ℕ) (want : ℕ) where
  pub chained_none : (last lower : List ℕ) → last ≡ replicate (length last) 0 → length last ≡ room → length lower ≡ room → Chained room kinds keys want 0 last lower
  unfolding past_last
  chained_none last lower e a b =
      record {
        fits = omega arith;
        last_room = a;
        lower_room = b;
        ends = λ k h. ap (λ x. get_or x k 0) e ∙ get_or-replicate (length last) k 0 0 (omega arith);
        steps = λ k r h l. absurd (omega arith);
      }

  -- record t, with the key q: the test is whether it is of the kind, and whether its key is one of those that have a chain
  module _ (t : ℕ) (last lower : List ℕ) (c : Chained room kinds keys want t last lower) (h : t < room) (q : ℕ) (e : q ≡ get_or keys t 0) where
    -- it is in no chain
    pub chained_skip : (get_or kinds t 0 ≡ want → q < room → ⊥) → Chained room kinds keys want (t + 1) last lower
    chained_skip n =
        let out : (k : ℕ) → k < room → keyed kinds keys want k t ≡ false
        = λ k l. never (keyed kinds keys want k t) (λ y. let w = simp says at y in n w.0 (omega (arith, w.1))) in
        record {
          fits = omega arith;
          last_room = c.last_room;
          lower_room = c.lower_room;
          ends = λ k l. c.ends k l ∙ sym (past_same (keyed kinds keys want k) t (out k l));
          steps = λ k r l b y. ⊎_elim
              (λ x. let rt : r ≡ t = omega arith in absurd (clear y (ap (keyed kinds keys want k) rt ∙ out k l)))
              (λ x. c.steps k r l x y)
              (le_or_lt t r);
        }

    -- it comes to the end of the chain of its key
    pub chained_store : get_or kinds t 0 ≡ want → q < room → Chained room kinds keys want (t + 1) (set last q (t + 1)) (set lower t (get_or last q 0))
    chained_store is below =
        let own : keyed kinds keys want q t ≡ true = simp says (is, sym e) in
        let other : (k : ℕ) → (k ≡ q → ⊥) → keyed kinds keys want k t ≡ false
        = λ k n. never (keyed kinds keys want k t) (λ z. n (sym (simp says at z).1 ∙ sym e)) in
        record {
          fits = omega arith;
          last_room = simp length-set c.last_room;
          lower_room = simp length-set c.lower_room;
          ends = λ k l. ⊎_elim
              (λ z.
              let kq = simp says at z in
              rw kq (get_or-set_same last q (t + 1) 0 (omega (arith, c.last_room)) ∙ sym (past_more (keyed kinds keys want q) t own)))
              (λ z.
              let n = simp says at z in
              get_or-set_other last q k (t + 1) 0 n ∙ c.ends k l ∙ sym (past_same (keyed kinds keys want k) t (other k n)))
              (went (eqb k q));
          steps = λ k r l b z. ⊎_elim
              (λ x.
              let rt : r ≡ t = omega arith in
              let kq : q ≡ k = e ∙ sym (ap (λ x. get_or keys x 0) rt) ∙ (simp says at z).1 in
              rw (rt, sym kq) (get_or-set_same lower t (get_or last q 0) 0 (omega (arith, c.lower_room)) ∙ c.ends q below))
              (λ x. get_or-set_other lower t r (get_or last q 0) 0 (λ p. omega arith) ∙ c.steps k r l x z)
              (le_or_lt t r);
        }

-- below i each number has its key: what is left of it on division by m
pub record Keys (m : ℕ) (numbers : List ℕ) (i : ℕ) (keys : List ℕ) : Type 0 where
  pub key : (k : ℕ) → k < i → get_or keys k 0 ≡ get_or numbers k 0 % m

pub keys_none : (m : ℕ) (numbers keys : List ℕ) → Keys m numbers 0 keys
keys_none m numbers keys = record { key = λ k h. absurd (omega arith) }

module _ (m : ℕ) (numbers : List ℕ) (i : ℕ) (keys : List ℕ) (s : Keys m numbers i keys) (full : length keys ≡ m) where
  pub keys-store : i < m → (x : ℕ) → x ≡ get_or numbers i 0 % m → Keys m numbers (i + 1) (set keys i x)
  keys-store h x e =
      record {
        key = below_more (λ k. get_or (set keys i x) k 0 ≡ get_or numbers k 0 % m) i
            (λ k l. get_or-set_other keys i k x 0 (λ p. omega arith) ∙ s.key k l)
            (get_or-set_same keys i x 0 (omega arith) ∙ e);
      }

  pub keys-grouped : length numbers ≤ i → length numbers ≤ m → Grouped m numbers keys
  keys-grouped d l =
      record {
        key_room = full;
        small = λ k h. let some : 0 < m = omega arith in rw (s.key k (omega arith)) (mod-lt (get_or numbers k 0) some);
        same = λ k j a b e. s.key j (omega arith) ∙ ap (λ x. x % m) e ∙ sym (s.key k (omega arith));
      }
