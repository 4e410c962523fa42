-- How the pass over the items goes on: below i each item has the class and the name of every item of its number.
use mathlib.Core.Path.{◌≡◌, refl, sym, ◌∙◌, ap}
use mathlib.Core.Logic.{◌⊎◌, ⊎_elim}
use mathlib.Core.List.{List}
use Prim.Native.Nat.{ℕ, ◌+◌, ◌≤◌, ◌<◌}
use native.Mathlib.Nat.{eq-or-lt_of_le}
use native.Mathlib.Omega.{arith}
use lib.Dec.{eqb}
use lib.ListN.{length, get_or, set, length-set}
use lib.Seq.{get_or-set_same, get_or-set_other}
use Rattle.meaning.proofs.Basics.{went}
use Rattle.meaning.proofs.Says.{says}
use Rattle.columns.specs.Chains.{Namesake, numbered}
use Rattle.twins.specs.Classed.{OneNumber, Classed, Alone}

-- of the numbers below i + 1: i itself, or one below it
pub last_or : (a i : ℕ) → a < i + 1 → (a ≡ i) ⊎ (a < i)
last_or a i h = let l : a ≤ i = omega arith in eq-or-lt_of_le l

-- record i is no item, so an item below i + 1 is below i
items_below : (kinds : List ℕ) (i : ℕ) → (get_or kinds i 0 ≡ 1 → ⊥) → (a : ℕ) → a < i + 1 → get_or kinds a 0 ≡ 1 → a < i
items_below kinds i n a l k = ⊎_elim (λ (e : a ≡ i). absurd (n (ap (λ x. get_or kinds x 0) (sym e) ∙ k))) (λ b. b) (last_or a i l)

module _ (kinds names items : List ℕ) where
  module _ (classes : List ℕ) (i : ℕ) (s : Classed kinds names items classes i) (h : i < length kinds) where
    -- record i is no item
    pub classed_skip : (get_or kinds i 0 ≡ 1 → ⊥) → Classed kinds names items classes (i + 1)
    classed_skip n =
        let below = items_below kinds i n in
        record {
          few = omega arith;
          room = s.room;
          low = s.low;
          class = λ a b l r o. s.class a b (below a l o.item) (below b r o.other) o;
          name = λ a b l r o. s.name a b (below a l o.item) (below b r o.other) o;
        }

    -- item i has a namesake j of its name, and gets its class
    module _ (k : get_or kinds i 0 ≡ 1) (j : ℕ) (n : Namesake (numbered kinds items) i j) (e : get_or names j 0 ≡ get_or names i 0) where
      -- the classes once item i has that of j
      abbrev after : List ℕ
      after = set classes i (get_or classes j 0)

      stays : (a : ℕ) → (a ≡ i → ⊥) → get_or after a 0 ≡ get_or classes a 0
      stays a o = get_or-set_other classes i a (get_or classes j 0) 0 o

      stored : get_or after i 0 ≡ get_or classes j 0
      stored = get_or-set_same classes i (get_or classes j 0) 0 (omega (arith, s.room))

      -- every item of the number so far has the class and the name
      alike : (a : ℕ) → a < i + 1 → get_or kinds a 0 ≡ 1 → get_or items a 0 ≡ get_or items i 0 → (get_or after a 0 ≡ get_or classes j 0) × (get_or names a 0 ≡ get_or names i 0)
      alike a l ka ea =
          ⊎_elim
          (λ (p : a ≡ i). rw p (stored, refl))
          (λ (p : a < i).
          ⊎_elim
          (λ (q : j ≡ i). absurd (n.none q a p ka ea))
          (λ (q : j < i).
          let o : OneNumber kinds items a j = record { item = ka; other = n.item; number = ea ∙ sym n.number } in
          (stays a (λ z. omega arith) ∙ s.class a j p q o, s.name a j p q o ∙ e))
          (eq-or-lt_of_le n.low))
          (last_or a i (omega arith))

      both : (a b : ℕ) → a < i + 1 → b < i + 1 → OneNumber kinds items a b → (get_or after a 0 ≡ get_or after b 0) × (get_or names a 0 ≡ get_or names b 0)
      both a b l r o =
          ⊎_elim
          (λ y.
          let p = simp says at y in
          let x = alike a l o.item p in
          let y = alike b r o.other (sym o.number ∙ p) in
          (x.0 ∙ sym y.0, x.1 ∙ sym y.1))
          (λ z.
          let p = simp says at z in
          let u : a ≡ i → ⊥ = λ e. p (ap (λ t. get_or items t 0) e) in
          let v : b ≡ i → ⊥ = λ e. p (o.number ∙ ap (λ t. get_or items t 0) e) in
          (stays a u ∙ s.class a b (omega arith) (omega arith) o ∙ sym (stays b v), s.name a b (omega arith) (omega arith) o))
          (went (eqb (get_or items a 0) (get_or items i 0)))

      pub classed_store : Classed kinds names items (set classes i (get_or classes j 0)) (i + 1)
      classed_store =
          record {
            few = omega arith;
            room = simp length-set s.room;
            low = λ a l. ⊎_elim
                (λ y. let q = s.low j (omega (arith, n.low)) in rw (simp says at y) (omega (arith, stored, n.low)))
                (λ z. rw (stays a (simp says at z)) (s.low a l))
                (went (eqb a i));
            class = λ a b l r o. (both a b l r o).0;
            name = λ a b l r o. (both a b l r o).1;
          }

-- how the search for two of one number goes on
module _ (kinds items : List ℕ) where
  module _ (i : ℕ) (s : Alone kinds items i) where
    pub alone-skip : (get_or kinds i 0 ≡ 1 → ⊥) → Alone kinds items (i + 1)
    alone-skip n =
        let below = items_below kinds i n in
        record { one = λ a b l r o. s.one a b (below a l o.item) (below b r o.other) o }

    -- item i is its own namesake
    pub alone-store : (j : ℕ) → Namesake (numbered kinds items) i j → i ≤ j → Alone kinds items (i + 1)
    alone-store j n l =
        let own : j ≡ i = omega (arith, n.low) in
        let last : (a : ℕ) → a < i → get_or kinds a 0 ≡ 1 → get_or items a 0 ≡ get_or items i 0 → ⊥ = n.none own in
        record {
          one = λ a b l r o. ⊎_elim
              (λ (p : a ≡ i). ⊎_elim
              (λ (q : b ≡ i). p ∙ sym q)
              (λ q. absurd (last b q o.other (sym o.number ∙ ap (λ t. get_or items t 0) p)))
              (last_or b i r))
              (λ p. ⊎_elim
              (λ (q : b ≡ i). absurd (last a p o.item (o.number ∙ ap (λ t. get_or items t 0) q)))
              (λ q. s.one a b p q o)
              (last_or b i r))
              (last_or a i l);
        }
