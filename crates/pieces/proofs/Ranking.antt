-- How the ends of the records of each row are ranked along the order.
use mathlib.Core.Path.{◌≡◌, refl, sym, ◌∙◌, ap}
use mathlib.Core.List.{List}
use mathlib.Core.Logic.{⊎_elim, inl, inr}
use Prim.Native.Nat.{ℕ, ◌+◌, ◌≤◌, ◌<◌, max}
use native.Mathlib.Omega.{arith}
use lib.ListN.{length, set}
use lib.Seq.{get_or-set_same, get_or-set_other}
use Rattle.std.proofs.lemmas.Bool.{cases_eq}
use Rattle.passes.specs.Passes.{at}
use Rattle.passes.specs.Given.{Cleared}
use Rattle.passes.proofs.Cases.{by}
use Rattle.pieces.specs.Lone.{Laid}
use Rattle.pieces.specs.Steps.{Ranked}

-- the record at position i of the order is one of the n
pub in_n : {order key lo : List ℕ} {n : ℕ} → Laid order key lo n → (i : ℕ) → i < length order → {x : ℕ} → x ≡ at order i → x < n
in_n laid i im ex = rw ex (laid.covered i im)

-- record x takes the top of row k
pub ranked_first : (top who second : List ℕ) (k x b : ℕ) → k < length top → k < length who → k < length second → at top k < b →
    Ranked k x b top who second (set top k b) (set who k x) (set second k (at top k))
ranked_first top who second k x b kt kw ks l =
    let new-top = get_or-set_same top k b 0 kt in
    let new-who = get_or-set_same who k x 0 kw in
    let new-second = get_or-set_same second k (at top k) 0 ks in
    record {
      risen = λ c. ⊎_elim
          (λ (f : c ≡ k). rw (f, new-top) (omega arith))
          (λ f. rw (get_or-set_other top k c b 0 f) (omega arith))
          (cases_eq c k);
      ended = rw new-top (omega arith);
      held = λ c. ⊎_elim
          (λ (f : c ≡ k). inr (f, rw f new-who, rw f new-top))
          (λ f. inl (get_or-set_other who k c x 0 f, get_or-set_other top k c b 0 f))
          (cases_eq c k);
      others = λ c y e t s no. ⊎_elim
          (λ (f : c ≡ k). let t' : e ≤ at top k = rw f at t in rw (f, new-second) t')
          (λ f.
          let same = get_or-set_other who k c x 0 f in
          rw (get_or-set_other second k c (at top k) 0 f) (s (λ g. no (g ∙ sym same))))
          (cases_eq c k);
      own = λ no. absurd (no (sym new-who));
    }

-- record x does not take the top
pub ranked_later : (top who second : List ℕ) (k x b r : ℕ) → k < length second → b ≤ at top k → r ≡ max (at second k) b →
    Ranked k x b top who second top who (set second k r)
ranked_later top who second k x b r ks l later =
    let new-second = get_or-set_same second k r 0 ks in
    record {
      risen = λ c. omega arith;
      ended = l;
      held = λ c. inl (refl, refl);
      others = λ c y e t s no. ⊎_elim
          (λ (f : c ≡ k).
          let s' : e ≤ at second k = rw f at (s no) in
          rw (f, new-second) (omega arith))
          (λ f. rw (get_or-set_other second k c r 0 f) (s no))
          (cases_eq c k);
      own = λ no. rw new-second (omega arith);
    }

-- record y, which ends after p, stands below i and is of row k
pub record Holder (order key hi : List ℕ) (i k y p : ℕ) : Type 0 where
  pub place : ℕ
  pub below : place < i
  pub found : at order place ≡ y
  pub of : at key y ≡ k
  pub to : p < at hi y

-- the records below position i are ranked
pub record Ranks (order key hi : List ℕ) (n i : ℕ) (top who second : List ℕ) : Type 0 where
  pub reached : (u k : ℕ) → u < i → by order key u ≡ k → k < n → by order hi u ≤ at top k
  pub others : (u k : ℕ) → u < i → by order key u ≡ k → k < n → (at order u ≡ at who k → ⊥) → by order hi u ≤ at second k
  pub held : (k p : ℕ) → k < n → p < at top k → Holder order key hi i k (at who k) p

module _ (order key hi : List ℕ) (n : ℕ) where
  pub ranks_none : (top who second : List ℕ) → Cleared top n → Ranks order key hi n 0 top who second
  ranks_none top who second z =
      record {
        reached = λ u k h. absurd (omega arith);
        others = λ u k h. absurd (omega arith);
        held = λ k p kn l. absurd (omega (arith, z.zeros k kn));
      }

  -- record x is at i
  module _ (i : ℕ) (top who second : List ℕ) (s : Ranks order key hi n i top who second) (x : ℕ) (ex : x ≡ at order i) where
    further : {k y p : ℕ} → Holder order key hi i k y p → Holder order key hi (i + 1) k y p
    further h = record { place = h.place; below = omega (arith, h.below); found = h.found; of = h.of; to = h.to }

    -- the key of a record at i is that of x
    key-at : {u k : ℕ} → u ≡ i → by order key u ≡ k → at key x ≡ k
    key-at w q = ap (at key) (ex ∙ sym (ap (at order) w)) ∙ q

    pub ranks_skip : n ≤ at key x → Ranks order key hi n (i + 1) top who second
    ranks_skip l =
        record {
          reached = λ u k h q kn. ⊎_elim
              (λ (w : u ≡ i). let e = key-at w q in absurd (omega arith))
              (λ w. s.reached u k (omega arith) q kn)
              (cases_eq u i);
          others = λ u k h q kn no. ⊎_elim
              (λ (w : u ≡ i). let e = key-at w q in absurd (omega arith))
              (λ w. s.others u k (omega arith) q kn no)
              (cases_eq u i);
          held = λ k p kn t. further (s.held k p kn t);
        }

    pub ranks_more : (k : ℕ) → k ≡ at key x → (top' who' second' : List ℕ) → Ranked k (at order i) (at hi x) top who second top' who' second' →
        Ranks order key hi n (i + 1) top' who' second'
    ranks_more k ek top' who' second' taken =
        let r : Ranked k x (at hi x) top who second top' who' second' = rw (← ex) at taken in
        record {
          reached = λ u c h q cn. ⊎_elim
              (λ (w : u ≡ i).
              let f : k ≡ c = ek ∙ key-at w q in
              let e : at order u ≡ x = ap (at order) w ∙ sym ex in
              let z : at hi x ≤ at top' c = rw f at r.ended in
              rw e z)
              (λ w. let z = s.reached u c (omega arith) q cn in omega (arith, r.risen c))
              (cases_eq u i);
          others = λ u c h q cn no. ⊎_elim
              (λ (w : u ≡ i).
              let f : k ≡ c = ek ∙ key-at w q in
              let e : at order u ≡ x = ap (at order) w ∙ sym ex in
              let z : at hi x ≤ at second' k = r.own (λ g. no (e ∙ g ∙ ap (at who') f)) in
              let y : at hi x ≤ at second' c = rw f at z in
              rw e y)
              (λ w. r.others c (at order u) (by order hi u) (s.reached u c (omega arith) q cn) (s.others u c (omega arith) q cn) no)
              (cases_eq u i);
          held = λ c p cn t. ⊎_elim
              (λ e. rw e.0 (further (s.held c p cn (omega (arith, e.1)))))
              (λ e. rw e.1 (record { place = i; below = omega arith; found = sym ex; of = sym ek ∙ sym e.0; to = omega (arith, e.2) }))
              (r.held c);
        }
