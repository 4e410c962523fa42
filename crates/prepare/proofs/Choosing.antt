-- Which records are read, from the marks of the selected ones and the holders.
use mathlib.Core.Path.{◌≡◌, refl, sym, ◌∙◌}
use mathlib.Core.Bool.{Bool, true, false, ◌&&◌}
use mathlib.Core.List.{List}
use Prim.Native.Nat.{ℕ, ◌≤◌, ◌<◌}
use native.Mathlib.Omega.{arith}
use lib.Dec.{eqb}
use lib.ListN.{get_or}
use borrow.Author.Tests.{eq-eqb, ne_eqb}
use Rattle.meaning.specs.declared.Rule.{Rule}
use Rattle.meaning.specs.Document.{Doc}
use Rattle.meaning.specs.Walk.{any}
use Rattle.meaning.specs.Select.{selected, field_of, reads_own}
use Rattle.meaning.proofs.Basics.{tests_same}
use Rattle.meaning.proofs.Walks.{any_some, any-true, any_none}
use Rattle.meaning.proofs.Says.{says}
use Rattle.marks.specs.Marks.{Marks}
use Rattle.prepare.specs.Holders.{Holders}

module _ (doc : Doc) (r : Rule) (n : ℕ) (all : doc.size ≡ n) (chosen holders : List ℕ)
    (m : Marks (selected doc r) doc.size chosen) (s : Holders doc r holders) (i : ℕ) (here : i < n) where
  -- u is selected, and i a field version of it
  abbrev reader : ℕ → Bool
  reader u = field_of doc r u i && selected doc r u

  pub reads-selected : get_or chosen i 0 ≡ 1 → true ≡ reads_own doc r i
  unfolding reads_own
  reads-selected e = let y : selected doc r i ≡ true = sym (m.mark i (omega arith)) ∙ eq-eqb (get_or chosen i 0) 1 e in rw y

  -- not selected itself, and its holder v
  module _ (z : get_or chosen i 0 ≡ 1 → ⊥) (v : ℕ) (e : v ≡ get_or holders i 0) where
    own : selected doc r i ≡ false
    own = sym (m.mark i (omega arith)) ∙ ne_eqb (get_or chosen i 0) 1 z

    -- i is a field version of its holder only
    held : (u : ℕ) → u < doc.size → field_of doc r u i ≡ eqb v u
    held u h = rw e (sym (s.held u i h (omega arith)))

    pub reads-holder : v < n → eqb (get_or chosen v 0) 1 ≡ reads_own doc r i
    unfolding reads_own
    reads-holder h =
        let here-v : v < doc.size = omega arith in
        rw (own, m.mark v here-v)
        (tests_same (selected doc r v) (any reader 0 doc.size)
        (λ y. any_some reader 0 doc.size v (record { from = omega arith; below = omega arith; passes = rw (held v here-v, eq-eqb v v refl) y }))
        (λ y.
        let w = any-true reader 0 doc.size y in
        let p = simp says at w.1.passes in
        let l : w.0 < doc.size = omega (arith, w.1.below) in
        let q = simp says at (sym (held w.0 l) ∙ p.0) in
        rw q p.1))

    pub reads_none : n ≤ v → false ≡ reads_own doc r i
    unfolding reads_own
    reads_none h =
        rw own
        (sym (any_none reader 0 doc.size (λ u a b. let l : u < doc.size = omega arith in rw (held u l, ne_eqb v u (λ q. omega arith)))))
