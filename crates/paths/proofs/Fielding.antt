-- Whether a rule by itself reads a record, at each way of finding it, and what a rule reads together with the one it refers to.
use mathlib.Core.Path.{◌≡◌, refl, sym, ◌∙◌, ap}
use mathlib.Core.Logic.{⊎_elim}
use mathlib.Core.Bool.{Bool, true, false, ◌&&◌, ◌||◌, not}
use mathlib.Core.List.{List}
use Prim.Native.Nat.{ℕ, ◌<◌}
use native.Mathlib.Omega.{arith}
use lib.Dec.{eqb}
use lib.ListN.{length, get_or}
use borrow.Author.Tests.{eq-eqb, ne_eqb, eqb-true}
use Rattle.meaning.specs.declared.Rule.{Rule}
use Rattle.meaning.specs.Document.{Doc, above}
use Rattle.meaning.specs.Walk.{any}
use Rattle.meaning.specs.Rules.{is_reference}
use Rattle.meaning.specs.Select.{selected, field_of, reads_own, reads}
use Rattle.meaning.proofs.Basics.{went, clear, never, tests_same, and_l, and_r, or_cases}
use Rattle.meaning.proofs.Walks.{any_some, any-true, any_none}
use Rattle.meaning.proofs.Says.{says}
use Rattle.meaning.proofs.Selects.{field_version, selected-here}
use Rattle.columns.specs.Lent.{Tree}
use Rattle.columns.specs.Judgeable.{Judgeable}
use Rattle.marks.specs.Marks.{Marks}

module _ (kinds names parents chosen : List ℕ) (doc : Doc) (r : Rule) (t : Tree doc kinds names parents) (g : Judgeable doc) (field : ℕ)
    (w : r.field ≡ field) (m : Marks (selected doc r) doc.size chosen) (i : ℕ) (here : i < length kinds) where
  -- u is selected, and i a field version of it
  abbrev reader : ℕ → Bool
  reader u = field_of doc r u i && selected doc r u

  inside : i < doc.size
  inside = omega (arith, t.kind.size)

  pub own-chosen : get_or chosen i 0 ≡ 1 → true ≡ reads_own doc r i
  unfolding reads_own
  own-chosen e = let y : selected doc r i ≡ true = sym (m.mark i inside) ∙ eq-eqb (get_or chosen i 0) 1 e in rw y

  -- not selected itself
  module _ (z : get_or chosen i 0 ≡ 1 → ⊥) where
    unchosen : selected doc r i ≡ false
    unchosen = sym (m.mark i inside) ∙ ne_eqb (get_or chosen i 0) 1 z

    unread : ((u : ℕ) → field_of doc r u i ≡ true → selected doc r u ≡ true → ⊥) → false ≡ reads_own doc r i
    unfolding reads_own
    unread f =
        rw unchosen
        (sym (any_none reader 0 doc.size (λ u a b. never (reader u) (λ y. f u (and_l (field_of doc r u i) (selected doc r u) y) (and_r (field_of doc r u i) (selected doc r u) y)))))

    -- field 0 is the version itself, and no other record than a version is a field version
    pub own-other : (eqb field 0 || not (eqb (get_or kinds i 0) 2)) ≡ true → false ≡ reads_own doc r i
    unfolding field_of
    own-other o =
        unread (λ u f s.
        ⊎_elim
        (λ y.
        let none : eqb r.field 0 ≡ true = eq-eqb r.field 0 (w ∙ eqb-true field 0 y) in
        let self : i ≡ u = eqb-true i u (rw none at f) in
        clear (ap (selected doc r) self ∙ s) unchosen)
        (λ y. let n = simp says at y in n (t.kind.at i ∙ eqb-true (doc.kind i) 2 (field_version doc r u i s f)))
        (or_cases (eqb field 0) (not (eqb (get_or kinds i 0) 2)) o))

    -- a version, which is asked by a name, and its item p
    module _ (o : (eqb field 0 || not (eqb (get_or kinds i 0) 2)) ≡ false) (p : ℕ) (e : p ≡ get_or parents i 0) where
      item : doc.parent i ≡ p
      item = sym (e ∙ t.parent.at i)

      version : eqb (doc.kind i) 2 ≡ true
      version = let k = simp says at o in eq-eqb (doc.kind i) 2 (sym (t.kind.at i) ∙ k.1)

      -- what is left of being a field version of u
      held : (u : ℕ) → field_of doc r u i ≡ (eqb (get_or names p 0) field && eqb (get_or parents p 0) u)
      unfolding field_of
      held u =
          let k = simp says at o in
          let up : above doc i ≡ get_or parents p 0 = ap doc.parent item ∙ sym (t.parent.at p) in
          rw (ne_eqb r.field 0 (λ q. k.0 (sym w ∙ q)), version, up, item, w, t.name.at p)

      -- no record stands above the root
      pub own-apart : (eqb p 0 || not (eqb (get_or names p 0) field)) ≡ true → false ≡ reads_own doc r i
      own-apart x =
          unread (λ u f s.
          let h = simp says at (sym (held u) ∙ f) in
          ⊎_elim
          (λ y. let q = eqb-true p 0 y in omega (arith, ap doc.parent q, t.parent.at p, h.1, g.top, selected-here doc r u s))
          (λ y. let n = simp says at y in n h.0)
          (or_cases (eqb p 0) (not (eqb (get_or names p 0) field)) x))

      pub own-above : (eqb p 0 || not (eqb (get_or names p 0) field)) ≡ false → (u : ℕ) → u ≡ get_or parents p 0 → u < length kinds → eqb (get_or chosen u 0) 1 ≡ reads_own doc r i
      unfolding reads_own
      own-above x u h l =
          let y = simp says at x in
          let in-doc : u < doc.size = omega (arith, t.kind.size) in
          let only : (b : ℕ) → field_of doc r b i ≡ eqb u b = λ b. held b ∙ rw (eq-eqb (get_or names p 0) field y.1, h) in
          rw (unchosen, m.mark u in-doc)
          (tests_same (selected doc r u) (any reader 0 doc.size)
          (λ s. any_some reader 0 doc.size u (record { from = omega arith; below = omega arith; passes = rw (only u, eq-eqb u u refl) s }))
          (λ s.
          let b = any-true reader 0 doc.size s in
          let c = simp says at b.1.passes in
          let q = eqb-true u b.0 (sym (only b.0) ∙ c.0) in
          rw q c.1))

-- a rule reads what it or `other` by itself reads: `other` is the rule referred to for a reference, else the rule again
pub reads-either : (doc : Doc) (q r other : Rule) (i : ℕ) → (is_reference r ≡ true → other ≡ q) → (is_reference r ≡ false → other ≡ r) → (reads_own doc r i || reads_own doc other i) ≡ reads doc q r i
unfolding reads
reads-either doc q r other i a b =
    ⊎_elim
    (λ y. rw (a y) (sym (ap (λ t. reads_own doc r i || (t && reads_own doc q i)) y)))
    (λ y. rw (b y) (twice (reads_own doc r i) ∙ sym (ap (λ t. reads_own doc r i || (t && reads_own doc q i)) y)))
    (went (is_reference r))
  where
    twice : (t : Bool) → (t || t) ≡ (t || false)
    twice true = refl
    twice false = refl
