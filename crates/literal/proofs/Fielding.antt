-- Field versions and values, at each way of telling them.
use mathlib.Core.Path.{◌≡◌, sym, ◌∙◌, ap}
use mathlib.Core.Bool.{Bool, true, false, ◌&&◌}
use mathlib.Core.List.{List}
use Prim.Native.Nat.{ℕ, ◌≤◌, ◌<◌}
use native.Mathlib.Omega.{arith}
use lib.Dec.{eqb, ltb}
use lib.ListN.{length, get_or}
use borrow.Author.Tests.{eq-eqb, ne_eqb}
use Rattle.meaning.specs.declared.Rule.{Rule}
use Rattle.meaning.specs.Document.{Doc, above}
use Rattle.meaning.specs.Block.{limit}
use Rattle.meaning.specs.Select.{field_of, valued, gives}
use Rattle.columns.specs.Lent.{Tree}
use Rattle.marks.specs.Marks.{marked, Marks}
use Rattle.literal.specs.Laid.{Lies, Laid}

module _ (kinds names parents : List ℕ) where
  -- the columns have at most as many records as a document
  pub lies-few : Lies kinds names parents → length kinds ≤ limit
  lies-few g = omega (arith, g.tree.kind.size, g.judgeable.few)

  -- the item of a version has a name and a parent
  pub item-here : Lies kinds names parents → (f p : ℕ) → get_or kinds f 0 ≡ 2 → p ≡ get_or parents f 0 → (p < length names) × (p < length parents)
  item-here g f p k e =
      let seat = g.judgeable.seated f (sym (g.tree.kind.at f) ∙ k) in
      let item : p ≡ g.doc.parent f = e ∙ g.tree.parent.at f in (
        omega (arith, seat.up, seat.here, g.tree.name.size),
        omega (arith, seat.up, seat.here, g.tree.parent.size),
      )

  module _ (doc : Doc) (r : Rule) (t : Tree doc kinds names parents) (field : ℕ) (w : r.field ≡ field) (v f : ℕ) where
    pub field_self : field ≡ 0 → eqb f v ≡ field_of doc r v f
    unfolding field_of
    field_self z = rw (eq-eqb r.field 0 (w ∙ z))

    module _ (z : field ≡ 0 → ⊥) where
      other : eqb r.field 0 ≡ false
      other = ne_eqb r.field 0 (λ e. z (sym w ∙ e))

      pub field_no_version : (get_or kinds f 0 ≡ 2 → ⊥) → false ≡ field_of doc r v f
      unfolding field_of
      field_no_version n = sym (rw (other, ne_eqb (doc.kind f) 2 (λ e. n (t.kind.at f ∙ e))))

      pub field_above : get_or kinds f 0 ≡ 2 → (p : ℕ) → p ≡ get_or parents f 0 → (a : ℕ) → a ≡ get_or parents p 0 → (eqb (get_or names p 0) field && eqb a v) ≡ field_of doc r v f
      unfolding field_of
      field_above k p e a h =
          let version : eqb (doc.kind f) 2 ≡ true = eq-eqb (doc.kind f) 2 (sym (t.kind.at f) ∙ k) in
          let item : doc.parent f ≡ p = sym (e ∙ t.parent.at f) in
          let up : above doc f ≡ a = ap doc.parent item ∙ sym (t.parent.at p) ∙ sym h in
          rw (t.name.at p) (sym (rw (other, version, up, item, w)))

-- f is a field version, and present
pub field_present : (p : ℕ → Bool) (n : ℕ) (marks : List ℕ) → Marks p n marks → (f : ℕ) → f < n → (x is : Bool) → x ≡ is → x && marked marks f ≡ (is && p f)
field_present p n marks m f h x is e = rw (m.mark f h, e)

-- and has a value
pub field_gives : (doc : Doc) (p : ℕ → Bool) (r : Rule) (kinds vkinds names parents presents : List ℕ) → Laid doc p kinds vkinds names parents presents
    → (v f : ℕ) (x : Bool) → x ≡ (field_of doc r v f && p f) → x && ltb 0 (get_or vkinds f 0) ≡ gives doc p r v f
unfolding gives valued
field_gives doc p r kinds vkinds names parents presents l v f x e = rw (e, l.vkind.at f)
