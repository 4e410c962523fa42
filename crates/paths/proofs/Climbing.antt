-- How a path is compared from a version up: the item of a version and the version above have their place in the columns, and each step up is one of `path_to`.
use mathlib.Core.Path.{◌≡◌, refl, sym, ◌∙◌, ap}
use mathlib.Core.Bool.{Bool, true, false, ◌&&◌, not, cond}
use mathlib.Core.List.{List}
use Prim.Native.Nat.{ℕ, zero, suc, ◌-◌, ◌≤◌, ◌<◌}
use native.Mathlib.Omega.{arith}
use lib.Dec.{eqb}
use lib.ListN.{length, get_or}
use borrow.Author.Tests.{eq-eqb, ne_eqb, not-true, not-false}
use Rattle.meaning.specs.declared.Rule.{Rule}
use Rattle.meaning.specs.Block.{limit}
use Rattle.meaning.specs.Document.{Doc, above}
use Rattle.meaning.specs.Select.{name_fits, path_to, selected}
use Rattle.meaning.proofs.Basics.{tests_same}
use Rattle.meaning.proofs.Says.{says}
use Rattle.columns.specs.Lent.{Lends, Tree}
use Rattle.columns.specs.Judgeable.{Seated, Judgeable}
use Rattle.paths.specs.Standing.{Stands}

-- where version v, its item p and the version above stand
module _ (names parents : List ℕ) (v : ℕ) (s : Stands names parents v) where
  seat : Seated s.doc v
  seat = s.judgeable.seated v s.version

  pub version-in : v < length parents
  version-in = omega (arith, seat.here, s.parent.size)

  module _ (p : ℕ) (e : p ≡ get_or parents v 0) where
    item : s.doc.parent v ≡ p
    item = sym (e ∙ s.parent.at v)

    pub item_in : (p < length names) × (p < length parents)
    item_in = (
      omega (arith, item, seat.up, seat.here, s.name.size),
      omega (arith, item, seat.up, seat.here, s.parent.size),
    )

    -- an item but the root stands in a version, a lower record
    module _ (n : p ≡ 0 → ⊥) where
      rise : 0 < s.doc.parent v
      rise = omega (arith, item)

      up : s.doc.parent p ≡ above s.doc v
      up = sym (ap s.doc.parent item)

      pub stands-above : (u : ℕ) → u ≡ get_or parents p 0 → Stands names parents u
      stands-above u h =
          record {
            doc = s.doc;
            name = s.name;
            parent = s.parent;
            judgeable = s.judgeable;
            version = ap s.doc.kind (h ∙ s.parent.at p ∙ up) ∙ (seat.over rise).version;
          }

-- the columns that hold a document have at most as many records as one
pub tree-few : (kinds names parents : List ℕ) → ((doc : Doc) × Tree doc kinds names parents × Judgeable doc) → length kinds ≤ limit
tree-few kinds names parents g = omega (arith, g.1.kind.size, g.2.few)

pub tree-stands : (kinds names parents : List ℕ) → ((doc : Doc) × Tree doc kinds names parents × Judgeable doc) → (v : ℕ) → get_or kinds v 0 ≡ 2 → Stands names parents v
tree-stands kinds names parents g v k =
    record { doc = g.0; name = g.1.name; parent = g.1.parent; judgeable = g.2; version = sym (g.1.kind.at v) ∙ k }

-- what stands above version i of the columns, its item p and the version above that
module _ (kinds names parents : List ℕ) (g : (doc : Doc) × Tree doc kinds names parents × Judgeable doc) (i : ℕ) (k : get_or kinds i 0 ≡ 2) (p : ℕ)
    (e : p ≡ get_or parents i 0) where
  pub tree-item : (p < length names) × (p < length parents)
  tree-item = item_in names parents i (tree-stands kinds names parents g i k) p e

  pub tree-above : (p ≡ 0 → ⊥) → (u : ℕ) → u ≡ get_or parents p 0 → u < length kinds
  tree-above n u h =
      let s = stands-above names parents i (tree-stands kinds names parents g i k) p e n u h in
      omega (arith, version-in names parents u s, g.1.parent.size, g.1.kind.size)

-- the answer of a walk up from v with k names of the path, at each way out
module _ (doc : Doc) (r : Rule) (names parents path : List ℕ) (n : Lends doc.size doc.name 0 names) (m : Lends doc.size doc.parent 0 parents)
    (a : r.path ≡ path) (k v : ℕ) where
  pub climb_none : k ≡ 0 → false ≡ path_to doc r k v
  unfolding path_to
  climb_none z = rw z

  module _ (some : k ≡ 0 → ⊥) (p : ℕ) (e : p ≡ get_or parents v 0) (fits : Bool) (f : fits ≡ name_fits (get_or path (k - 1) 0) (get_or names p 0)) where
    -- one step up, as the columns have it
    step : (j : ℕ) → k ≡ j → path_to doc r j v ≡ (fits && cond (eqb p 0) (eqb k 1) (path_to doc r (k - 1) (get_or parents p 0)))
    unfolding path_to
    step zero h = absurd (some h)
    step (suc j) h =
        let q : k - 1 ≡ j = omega arith in
        let one : eqb k 1 ≡ eqb j 0
        = tests_same (eqb k 1) (eqb j 0) (λ t. let b = simp says at t in eq-eqb j 0 (omega arith)) (λ t. let b = simp says at t in eq-eqb k 1 (omega arith)) in
        let here : doc.parent v ≡ p = sym (e ∙ m.at v) in
        let up : above doc v ≡ get_or parents p 0 = ap doc.parent here ∙ sym (m.at p) in
        rw (f, one, q, ← a, up, here, n.at p)

    pub climb_other : not fits ≡ true → false ≡ path_to doc r k v
    climb_other o = sym (step k refl ∙ rw (not-true fits o))

    module _ (y : not fits ≡ false) where
      pub climb_root : p ≡ 0 → eqb k 1 ≡ path_to doc r k v
      climb_root z = sym (step k refl ∙ rw (not-false fits y, eq-eqb p 0 z))

      pub climb_up : (p ≡ 0 → ⊥) → (u : ℕ) → u ≡ get_or parents p 0 → (x : Bool) → x ≡ path_to doc r (k - 1) u → x ≡ path_to doc r k v
      climb_up o u q x h = h ∙ ap (path_to doc r (k - 1)) q ∙ sym (step k refl ∙ rw (not-false fits y, ne_eqb p 0 o))

-- whether record v is selected, by its kind and by the walk up with all names of the path
module _ (kinds names parents : List ℕ) (doc : Doc) (r : Rule) (t : Tree doc kinds names parents) (v : ℕ) where
  pub selected-other : (get_or kinds v 0 ≡ 2 → ⊥) → false ≡ selected doc r v
  unfolding selected
  selected-other n = rw (ne_eqb (doc.kind v) 2 (λ e. n (t.kind.at v ∙ e)))

  pub selected-as : get_or kinds v 0 ≡ 2 → (steps : ℕ) → r.steps ≡ steps → (fits b : Bool) → fits ≡ path_to doc r steps v → fits ≡ b → b ≡ selected doc r v
  unfolding selected
  selected-as k steps s fits b f e = rw (eq-eqb (doc.kind v) 2 (sym (t.kind.at v) ∙ k)) (sym e ∙ f ∙ ap (λ m. path_to doc r m v) (sym s))
