-- Records sorted anew by where they count from: marks of those that have a key, and an order of them.
use mathlib.Core.Path.{◌≡◌, ◌∙◌, ap}
use mathlib.Core.Bool.{true}
use mathlib.Core.Logic.{⊎_elim}
use mathlib.Core.List.{List}
use Prim.Native.Nat.{ℕ, ◌-◌, ◌≤◌, ◌<◌}
use native.Mathlib.Omega.{arith}
use lib.Dec.{eqb}
use lib.ListN.{length, get_or, take, length-take, get_or-eq_default}
use lib.Seq.{get_or-take}
use borrow.Author.Tests.{lt-ltb, eqb-true}
use Rattle.meaning.proofs.Basics.{le_or_lt}
use Rattle.passes.specs.Passes.{On}
use Rattle.crowds.specs.Crowds.{at, Ordered}
use Rattle.orders.specs.Order.{InOrder}
use Rattle.parts.specs.Ground.{Ground}
use Rattle.parts.specs.Keyed.{KeyMarks}

-- what an order of some of n records is to the passes
pub ordered_ground : (order column keys hi : List ℕ) (n : ℕ) → Ordered order column keys n → n ≤ length column → n ≤ length hi → Ground order column hi n
ordered_ground order column keys hi n o c h = record { covered = o.covered; rising = record { up = o.rising }; lo_room = c; hi_room = h }

-- the marked ones in order, as many as there are
module _ (marks column order : List ℕ) (n many : ℕ) (o : InOrder (λ x. eqb (get_or (take (n - 0) marks) x 0) 2) column order many) where
  size : length (take (many - 0) order) ≡ many
  size = simp length-take (omega (arith, o.room))

  same : (i : ℕ) → i < many → at (take (many - 0) order) i ≡ at order i
  same i h = get_or-take (many - 0) order i 0 (omega arith)

  -- a marked one is one of them, and they are all below n
  member : (x : ℕ) → x < n → eqb (at marks x) 2 ≡ true → eqb (get_or (take (n - 0) marks) x 0) 2 ≡ true
  member x h e = ap (λ m. eqb m 2) (get_or-take (n - 0) marks x 0 (omega arith)) ∙ e

  low : (x : ℕ) → eqb (get_or (take (n - 0) marks) x 0) 2 ≡ true → x < n
  low x e =
      ⊎_elim
      (λ (h : n ≤ x).
      let past : length (take (n - 0) marks) ≤ x = simp length-take (omega arith) in
      let none = get_or-eq_default (take (n - 0) marks) 0 past in
      let two : get_or (take (n - 0) marks) x 0 ≡ 2 = eqb-true (get_or (take (n - 0) marks) x 0) 2 e in
      absurd (omega arith))
      (λ h. h)
      (le_or_lt n x)

  -- one stands in the order
  pub marked-on : (x : ℕ) → x < n → eqb (at marks x) 2 ≡ true → On (take (many - 0) order) x
  marked-on x h e =
      let a = o.all x (member x h e) in
      record { place = o.place x; below = omega (arith, a.0, size); found = same (o.place x) a.0 ∙ a.1 }

  -- and where those that have a key are marked, all that have one do
  pub marked-ordered : (keys : List ℕ) → ((x : ℕ) → x < n → at keys x < n → eqb (at marks x) 2 ≡ true) → Ordered (take (many - 0) order) column keys n
  marked-ordered keys has =
      record {
        covered = λ j h. rw (same j (omega (arith, size))) (low (at order j) (o.once j (omega (arith, size))).0);
        place = o.place;
        all = λ y h l. let a = o.all y (member y h (has y h l)) in (omega (arith, a.0, size), same (o.place y) a.0 ∙ a.1);
        once = λ j h. ap o.place (same j (omega (arith, size))) ∙ (o.once j (omega (arith, size))).1;
        rising = λ i j h l. rw (same i (omega (arith, size)), same j (omega (arith, size))) (o.rising i j h (omega (arith, size)));
      }

-- a record that has a key is marked
pub key-marked : (n : ℕ) (keys marks : List ℕ) → KeyMarks n keys marks → (x : ℕ) → x < n → at keys x < n → eqb (at marks x) 2 ≡ true
key-marked n keys marks k x h l = k.mark x h ∙ lt-ltb (at keys x) n l
