-- The holder of a record, at each way of finding it, and a column of holders.
use mathlib.Core.Path.{◌≡◌, sym, ◌∙◌, ap}
use mathlib.Core.Bool.{true, false}
use mathlib.Core.List.{List}
use Prim.Native.Nat.{ℕ, ◌≤◌, ◌<◌}
use native.Mathlib.Omega.{arith}
use lib.Dec.{eqb}
use lib.ListN.{length, get_or}
use borrow.Author.Tests.{eq-eqb, ne_eqb}
use Rattle.meaning.specs.declared.Rule.{Rule}
use Rattle.meaning.specs.Document.{Doc, above}
use Rattle.meaning.specs.Select.{field_of}
use Rattle.meaning.specs.Block.{limit}
use Rattle.columns.specs.Lent.{Tree}
use Rattle.columns.specs.Judgeable.{Judgeable}
use Rattle.prepare.specs.Holders.{Holders}
use Rattle.prepare.proofs.Filling.{Filled}
use Rattle.prepare.proofs.Descending.{seat_item}

-- the columns have at most as many records as a document
pub tree-few : (kinds names parents : List ℕ) → ((doc : Doc) × Tree doc kinds names parents × Judgeable doc) → length kinds ≤ limit
tree-few kinds names parents g = omega (arith, g.1.kind.size, g.2.few)

-- x is the holder of f
abbrev pub Held : Doc → Rule → ℕ → ℕ → Type 0
Held doc r f x = (v : ℕ) → v < doc.size → eqb x v ≡ field_of doc r v f

pub filled-holders : (doc : Doc) (r : Rule) (i : ℕ) (holders : List ℕ) → Filled (Held doc r) i holders → doc.size ≤ i → doc.size ≤ length holders → Holders doc r holders
filled-holders doc r i holders s h l = record { room = l; held = λ v f a b. s.entry f (omega arith) v a }

module _ (kinds names parents : List ℕ) where
  -- the item of a version has a name and a parent
  pub item-here : ((doc : Doc) × Tree doc kinds names parents × Judgeable doc) → (f p : ℕ) → get_or kinds f 0 ≡ 2 → p ≡ get_or parents f 0 → (p < length names) × (p < length parents)
  item-here g f p k e = let s = seat_item kinds names parents g.0 g.1 g.2 f k p e in (s.1, s.2)

  module _ (doc : Doc) (r : Rule) (t : Tree doc kinds names parents) (few : length kinds ≤ limit) (field : ℕ) (w : r.field ≡ field) (f : ℕ) where
    -- no record has the number 65,535
    nobody : (v : ℕ) → v < doc.size → eqb 65535 v ≡ false
    nobody v h = ne_eqb 65535 v (λ e. omega (arith, t.kind.size))

    pub held-self : field ≡ 0 → Held doc r f f
    unfolding field_of
    held-self z v h = rw (eq-eqb r.field 0 (w ∙ z))

    module _ (z : field ≡ 0 → ⊥) where
      other : eqb r.field 0 ≡ false
      other = ne_eqb r.field 0 (λ e. z (sym w ∙ e))

      pub held-no_version : (get_or kinds f 0 ≡ 2 → ⊥) → Held doc r f 65535
      unfolding field_of
      held-no_version n v h = nobody v h ∙ sym (rw (other, ne_eqb (doc.kind f) 2 (λ e. n (t.kind.at f ∙ e))))

      module _ (k : get_or kinds f 0 ≡ 2) (p : ℕ) (e : p ≡ get_or parents f 0) where
        version : eqb (doc.kind f) 2 ≡ true
        version = eq-eqb (doc.kind f) 2 (sym (t.kind.at f) ∙ k)

        item : doc.parent f ≡ p
        item = sym (e ∙ t.parent.at f)

        pub held-other_name : (get_or names p 0 ≡ field → ⊥) → Held doc r f 65535
        unfolding field_of
        held-other_name n v h = nobody v h ∙ sym (rw (other, version, item, ne_eqb (doc.name p) r.field (λ q. n (t.name.at p ∙ q ∙ w))))

        pub held-above : get_or names p 0 ≡ field → Held doc r f (get_or parents p 0)
        unfolding field_of
        held-above y v h =
            let up : above doc f ≡ get_or parents p 0 = ap doc.parent item ∙ sym (t.parent.at p) in
            sym (rw (other, version, up, item, eq-eqb (doc.name p) r.field (sym (t.name.at p) ∙ y ∙ sym w)))
