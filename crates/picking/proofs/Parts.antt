-- The part of an order that passes a test is picked entry by entry, and is an order of what passes.
use mathlib.Core.Path.{◌≡◌, refl, sym, ap, ◌∙◌}
use mathlib.Core.Logic.{⊎_elim}
use mathlib.Core.Bool.{Bool, true, ◌&&◌}
use mathlib.Core.List.{List}
use Prim.Native.Nat.{ℕ, ◌+◌, ◌-◌, ◌≤◌, ◌<◌}
use native.Mathlib.Numerals.{add-one}
use native.Mathlib.Nat.{eq-or-lt_of_le}
use native.Mathlib.Omega.{arith}
use lib.ListN.{length, get_or, set, take, length-take}
use lib.Seq.{get_or-set_same, get_or-set_other, get_or-take}
use Rattle.std.specs.Int.{from_bool}
use Rattle.meaning.proofs.Basics.{went, le_or_lt, and_l, and_r, both}
use Rattle.orders.specs.Order.{InOrder}
use Rattle.passes.specs.Passes.{at}
use Rattle.picking.specs.Picked.{passing, Picked}
use Rattle.picking.proofs.Passing.{passing-hit, passing-miss, passing-most, passing-rises, passing-behind, passing-at}

module _ (test : ℕ → Bool) (order : List ℕ) where
  -- of no entry nothing is picked
  pub picked_none : (part : List ℕ) → Picked test order 0 part 0
  unfolding passing
  picked_none part = record { many = refl; each = λ j h e. absurd (omega arith) }

  -- the next entry is stored behind what was picked, and counts if it passes
  pub picked_next : (i : ℕ) (part : List ℕ) (k w : ℕ) → Picked test order i part k → k < length part → w ≡ from_bool (test (at order i))
      → Picked test order (i + 1) (set part k (at order i)) (k + w)
  picked_next i part k w p h e =
      let old : (j : ℕ) → j < i → test (at order j) ≡ true → at (set part k (at order i)) (passing test order j) ≡ at order j =
      λ j l y. get_or-set_other part k (passing test order j) (at order i) 0 (λ q. omega (arith, p.many, passing-behind test order j i l y)) ∙ p.each j l y in
      let new : at (set part k (at order i)) (passing test order i) ≡ at order i = rw (← p.many) (get_or-set_same part k (at order i) 0 h) in
      record {
        many = rw (add-one i)
            (⊎_elim
            (λ y. let one : w ≡ 1 = rw y at e in omega (arith, p.many, passing-hit test order i y))
            (λ z. let none : w ≡ 0 = rw z at e in omega (arith, p.many, passing-miss test order i z))
            (went (test (at order i))));
        each = λ j l y. ⊎_elim (λ (q : j ≡ i). rw q new) (λ m. old j m y) (eq-or-lt_of_le {n = j} {m = i} (omega arith));
      }

  -- no more are picked than there are
  pub picked_most : {i : ℕ} {part : List ℕ} {k : ℕ} → Picked test order i part k → k ≤ i
  picked_most {i} p = omega (arith, p.many, passing-most test order i)

-- the front of an order that has m entries is an order by itself
pub cut : (member : ℕ → Bool) (column order : List ℕ) (m : ℕ) → InOrder member column order m → InOrder member column (take (m - 0) order) (length (take (m - 0) order))
cut member column order m o =
    let size : length (take (m - 0) order) ≡ m = simp length-take (omega (arith, o.room)) in
    let same : (i : ℕ) → i < m → get_or (take (m - 0) order) i 0 ≡ get_or order i 0 = λ i h. get_or-take (m - 0) order i 0 (omega arith) in
    record {
      room = omega arith;
      place = o.place;
      rising = λ i j h l. rw (same i (omega arith), same j (omega arith)) (o.rising i j h (omega arith));
      all = λ x e. let a = o.all x e in (omega (arith, a.0), same (o.place x) a.0 ∙ a.1);
      once = λ i h. let b = o.once i (omega arith) in rw (same i (omega arith)) b;
    }

-- a part of an order is an order, of the members that pass
module _ (member test : ℕ → Bool) (column order part : List ℕ) (k : ℕ) (whole : InOrder member column order (length order))
    (picked : Picked test order (length order) part k) (room : k ≤ length part) where
  -- where an entry of the part stands in the whole
  from : (l : ℕ) → l < k → (j : ℕ) × (j < length order) × (test (at order j) ≡ true) × (passing test order j ≡ l) × (at part l ≡ at order j)
  from l h =
      let s = passing-at test order (length order) l (omega (arith, picked.many)) in
      let t = s.1 in
      (s.0, t.below, t.passes, t.behind, ap (at part) (sym t.behind) ∙ picked.each s.0 t.below t.passes)

  -- what stands further on in the part does so in the whole
  further : (i j a b : ℕ) → i < j → passing test order a ≡ i → passing test order b ≡ j → a < b
  further i j a b h p q = ⊎_elim (λ (l : b ≤ a). absurd (omega (arith, passing-rises test order b a l))) (λ l. l) (le_or_lt b a)

  picked_order : InOrder (λ x. member x && test x) column part k
  picked_order =
      record {
        room = room;
        place = λ x. passing test order (whole.place x);
        rising = λ i j h l.
            let a = from i (omega arith) in
            let b = from j l in
            rw (a.4, b.4) (whole.rising a.0 b.0 (further i j a.0 b.0 h a.3 b.3) b.1);
        all = λ x e.
            let there = whole.all x (and_l (member x) (test x) e) in
            let passes : test (at order (whole.place x)) ≡ true = rw there.1 (and_r (member x) (test x) e) in (
              omega (arith, picked.many, passing-behind test order (whole.place x) (length order) there.0 passes),
              picked.each (whole.place x) there.0 passes ∙ there.1,
            );
        once = λ l h.
            let a = from l h in
            let o = whole.once a.0 a.1 in
            rw a.4 (both (member (at order a.0)) (test (at order a.0)) o.0 a.2, ap (passing test order) o.1 ∙ a.3);
      }

  -- and so is what the list has of it
  pub part_order : InOrder (λ x. member x && test x) column (take (k - 0) part) (length (take (k - 0) part))
  part_order = cut (λ x. member x && test x) column part k picked_order
