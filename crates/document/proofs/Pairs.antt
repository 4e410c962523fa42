-- Test 9 at a pair of items as the code decides it: by the numbers, by the names, by the days.
use mathlib.Core.Path.{◌≡◌}
use mathlib.Core.Bool.{true, false}
use Prim.Native.Nat.{ℕ}
use borrow.Author.Tests.{eq-eqb, ne_eqb}
use Rattle.meaning.specs.Document.{Doc}
use Rattle.meaning.specs.Nodes.{overlap, clash}

module _ (doc : Doc) (i j : ℕ) (k : doc.kind j ≡ 1) where
  pub by_number : (doc.item j ≡ doc.item i → ⊥) → false ≡ clash doc i j
  unfolding clash
  by_number n = rw (eq-eqb (doc.kind j) 1 k, ne_eqb (doc.item j) (doc.item i) n)

  pub by_name : doc.item j ≡ doc.item i → (doc.name j ≡ doc.name i → ⊥) → true ≡ clash doc i j
  unfolding clash
  by_name e n = rw (eq-eqb (doc.kind j) 1 k, eq-eqb (doc.item j) (doc.item i) e, ne_eqb (doc.name j) (doc.name i) n)

  pub by-days : doc.item j ≡ doc.item i → doc.name j ≡ doc.name i → overlap doc i j ≡ clash doc i j
  unfolding clash
  by-days e m = rw (eq-eqb (doc.kind j) 1 k, eq-eqb (doc.item j) (doc.item i) e, eq-eqb (doc.name j) (doc.name i) m)
