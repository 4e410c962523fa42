-- What is come to from the root is what is present.
use mathlib.Core.Path.{◌≡◌, refl, sym, ◌∙◌, ap}
use mathlib.Core.Logic.{⊎_elim}
use mathlib.Core.Bool.{Bool, true, ◌&&◌, ◌||◌, false≢true}
use Prim.Native.Nat.{ℕ, zero, suc, ◌<◌}
use native.Mathlib.Omega.{arith}
use lib.Dec.{eqb}
use borrow.Author.Tests.{eqb-true, eq-eqb}
use Rattle.meaning.specs.Walk.{any}
use Rattle.meaning.specs.Document.{Doc, above, version_of}
use Rattle.meaning.specs.Nodes.{deepest}
use Rattle.meaning.specs.Day.{alive, reached, present_on}
use Rattle.meaning.proofs.Basics.{tests_same, and_l, and_r, both, or_cases, or_l, or_r}
use Rattle.meaning.proofs.Walks.{any_some, any-true}
use Rattle.meaning.proofs.Says.{says}
use Rattle.meaning.proofs.Slices.{lives}
use Rattle.columns.specs.Judgeable.{Judgeable}
use Rattle.descent.specs.Descent.{current_of, item_in, comes}

module _ (doc : Doc) (d : ℕ) where
  -- w is come to from some item in version v
  abbrev pub below : ℕ → ℕ → ℕ → Bool
  below n v w = any (λ j. item_in doc v j && comes doc d n j w) 0 doc.size

  -- w is v or is come to from some item in v
  abbrev pub at-or_below : ℕ → ℕ → ℕ → Bool
  at-or_below n v w = eqb v w || below n v w

  pub current_alive : (i v : ℕ) → current_of doc d i v ≡ true → alive doc d v ≡ true
  unfolding current_of
  current_alive i v e = and_r (version_of doc i v) (alive doc d v) e

  -- by the current version of an item
  pub comes-by : (n i v w : ℕ) → v < doc.size → current_of doc d i v ≡ true → at-or_below n v w ≡ true → comes doc d (suc n) i w ≡ true
  unfolding comes
  comes-by n i v w h c e =
      any_some (λ u. current_of doc d i u && at-or_below n u w) 0 doc.size v
      (record { from = omega arith; below = omega arith; passes = both (current_of doc d i v) (at-or_below n v w) c e })

  -- by an item in a version
  below_by : (n v j w : ℕ) → j < doc.size → item_in doc v j ≡ true → comes doc d n j w ≡ true → below n v w ≡ true
  below_by n v j w h i e =
      any_some (λ k. item_in doc v k && comes doc d n k w) 0 doc.size j
      (record { from = omega arith; below = omega arith; passes = both (item_in doc v j) (comes doc d n j w) i e })

  -- how w was come to: the item's current version, and whether w is it or lies below it
  pub record By (n i w : ℕ) : Type 0 where
    pub version : ℕ
    pub here : version < doc.size
    pub current : current_of doc d i version ≡ true
    pub rest : at-or_below n version w ≡ true

  pub came : (n i w : ℕ) → comes doc d (suc n) i w ≡ true → By n i w
  unfolding comes
  came n i w e =
      let r = any-true (λ v. current_of doc d i v && at-or_below n v w) 0 doc.size e in
      let v = r.0 in
      record {
        version = v;
        here = omega (arith, r.1.below);
        current = and_l (current_of doc d i v) (at-or_below n v w) r.1.passes;
        rest = and_r (current_of doc d i v) (at-or_below n v w) r.1.passes;
      }

  record Through (n v w : ℕ) : Type 0 where
    item : ℕ
    here : item < doc.size
    stands : item_in doc v item ≡ true
    rest : comes doc d n item w ≡ true

  through : (n v w : ℕ) → below n v w ≡ true → Through n v w
  through n v w e =
      let r = any-true (λ j. item_in doc v j && comes doc d n j w) 0 doc.size e in
      let j = r.0 in
      record {
        item = j;
        here = omega (arith, r.1.below);
        stands = and_l (item_in doc v j) (comes doc d n j w) r.1.passes;
        rest = and_r (item_in doc v j) (comes doc d n j w) r.1.passes;
      }

  -- what is come to is alive
  comes-alive : (n i w : ℕ) → comes doc d n i w ≡ true → alive doc d w ≡ true
  unfolding comes
  comes-alive zero i w e = absurd (false≢true e)
  comes-alive (suc n) i w e =
      let b = came n i w e in
      ⊎_elim
      (λ s. let q : b.version ≡ w = eqb-true b.version w s in ap (alive doc d) (sym q) ∙ current_alive i b.version b.current)
      (λ t. let p = through n b.version w t in comes-alive n p.item w p.rest)
      (or_cases (eqb b.version w) (below n b.version w) b.rest)

  -- one item more at the far end
  comes-further : (n i u j w : ℕ) → j < doc.size → w < doc.size → comes doc d n i u ≡ true → item_in doc u j ≡ true → current_of doc d j w ≡ true → comes doc d (suc n) i w ≡ true
  unfolding comes
  comes-further zero i u j w hj hw e s c = absurd (false≢true e)
  comes-further (suc n) i u j w hj hw e s c =
      let b = came n i u e in
      let v = b.version in
      comes-by (suc n) i v w b.here b.current
      (or_r (eqb v w) (below (suc n) v w)
      (⊎_elim
      (λ q.
      let same : v ≡ u = eqb-true v u q in
      below_by (suc n) v j w hj (ap (λ x. item_in doc x j) same ∙ s) (comes-by n j w w hw c (or_l (eqb w w) (below n w w) (eq-eqb w w refl))))
      (λ t. let p = through n v u t in below_by (suc n) v p.item w p.here p.stands (comes-further n p.item u j w hj hw p.rest s c))
      (or_cases (eqb v u) (below n v u) b.rest)))

  module _ (g : Judgeable doc) where
    -- a version alive is the current one of its item
    current_own : (v : ℕ) → alive doc d v ≡ true → current_of doc d (doc.parent v) v ≡ true
    unfolding current_of version_of
    current_own v e = simp says (((lives doc d v e).kind, refl), e)

    -- and its item stands in the version above it
    item-own : (v : ℕ) → alive doc d v ≡ true → item_in doc (above doc v) (doc.parent v) ≡ true
    unfolding item_in
    item-own v e = simp says ((g.seated v (lives doc d v e).kind).item, refl)

    reached-comes : (n v : ℕ) → reached doc d n v ≡ true → comes doc d n 0 v ≡ true
    unfolding reached
    reached-comes zero v e = absurd (false≢true e)
    reached-comes (suc n) v e =
        let here = alive doc d v in
        let top = eqb (doc.parent v) 0 in
        let up = reached doc d n (above doc v) in
        let a : here ≡ true = and_l here (top || up) e in
        let s = g.seated v (lives doc d v a).kind in
        ⊎_elim
        (λ t.
        let root : doc.parent v ≡ 0 = eqb-true (doc.parent v) 0 t in
        comes-by n 0 v v s.here (ap (λ i. current_of doc d i v) (sym root) ∙ current_own v a) (or_l (eqb v v) (below n v v) (eq-eqb v v refl)))
        (λ r. comes-further n 0 (above doc v) (doc.parent v) v (omega (arith, s.here, s.up)) s.here (reached-comes n (above doc v) r) (item-own v a) (current_own v a))
        (or_cases top up (and_r here (top || up) e))

-- THE LAW of the descent: what is come to from the root is what is present
pub comes-present : (doc : Doc) → Judgeable doc → (d w : ℕ) → comes doc d deepest 0 w ≡ present_on doc d w
unfolding present_on
comes-present doc g d w =
    tests_same (comes doc d deepest 0 w) (present_on doc d w)
    (λ e. g.present d w ∙ comes-alive doc d deepest 0 w e)
    (λ e. reached-comes doc d g deepest w e)
