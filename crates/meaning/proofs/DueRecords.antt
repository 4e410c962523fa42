-- The tests of one record after the other refuse exactly as the lines of 01's table are due: 4, 5, 6 and 8.
use mathlib.Core.Path.{◌≡◌, refl}
use mathlib.Core.Logic.{◌⊎◌, ⊎_elim}
use mathlib.Core.Bool.{true, false, ◌&&◌, ◌||◌}
use Prim.Native.Nat.{ℕ, zero, suc, ◌<◌}
use native.Mathlib.Nat.{eq-or-lt_of_le, le_of_suc-le-suc}
use native.Mathlib.Omega.{arith}
use borrow.Author.Tests.{eqb-false, ltb-false, leb-true, leb-false}
use lib.Dec.{eqb, ltb, leb}
use Rattle.meaning.specs.Reading.{Accepted}
use Rattle.meaning.specs.Order.{need, earliest}
use Rattle.meaning.specs.Document.{Doc, node, is_item, is_version}
use Rattle.meaning.specs.Nodes.{node_fields, parent_fits, depth, read_record}
use Rattle.meaning.proofs.Basics.{and_else}
use Rattle.meaning.proofs.Says.{says, eq_passes}
use Rattle.meaning.proofs.Rows.{ItemRow, VersionRow}
use Rattle.meaning.proofs.Tables.{node_row}
use Rattle.meaning.proofs.Ways.{InTree, depth-way, way_depth}
use Rattle.meaning.proofs.Records.{root-fits, later-fits, stands_at}
use Rattle.meaning.proofs.Lines.{each, Says, need-says, need-broken, then_says, each-says}
use Rattle.meaning.proofs.Due.{WrongParent, root_no_item, root_in_other, not_lower, version_in_no_item, item_in_no_version, TooDeep, record_lines}

module _ (doc : Doc) where
  abbrev Row : ℕ → Type 0
  Row i = ItemRow (node doc i) ⊎ VersionRow (node doc i)

  -- 6
  parent-right : (i : ℕ) → Row i → parent_fits doc i ≡ true → WrongParent doc i → ⊥
  parent-right i t e (root_no_item z f) = f ((stands_at doc i t e).first z)
  parent-right i t e (root_in_other z f) = f (rw z ((root-fits doc).0 (rw z at e)).1)
  parent-right i t e (not_lower z h) = let l = ((later-fits doc i z t).0 e).0 in omega arith
  parent-right i t e (version_in_no_item z k f) = f (((later-fits doc i z t).0 e).1 k)
  parent-right i t e (item_in_no_version z k f) = f (((later-fits doc i z t).0 e).2 k)

  parent-wrong : (i : ℕ) → Row i → parent_fits doc i ≡ false → WrongParent doc i
  unfolding parent_fits
  parent-wrong zero t =
      and_else (is_item doc 0) (eqb (doc.parent 0) 65535) (λ z. root_no_item refl (eqb-false (doc.kind 0) 1 z)) (λ z. root_in_other refl (eqb-false (doc.parent 0) 65535 z))
  parent-wrong (suc k) t =
      let i = suc k in
      let p = doc.parent i in
      and_else (ltb p i) ((is_item doc i && is_version doc p) || (is_version doc i && is_item doc p))
      (λ z. not_lower (omega arith) (ltb-false p i z))
      (λ z. let w = simp says at z in
      ⊎_elim (λ x. item_in_no_version (omega arith) x.kind (w.0 x.kind)) (λ x. version_in_no_item (omega arith) x.kind (w.1 x.kind)) t)

  -- 8, where this record and those before it stand in the tree
  module _ (i : ℕ) (tree : (j : ℕ) → j < suc i → InTree doc j) where
    deep : leb (depth doc i) 8 ≡ false → TooDeep doc i
    deep e = record { items = depth doc i; many = leb-false (depth doc i) 8 e; way = depth-way doc (suc i) tree i (omega arith) }

    shallow : leb (depth doc i) 8 ≡ true → TooDeep doc i → ⊥
    shallow e d = omega (arith, leb-true (depth doc i) 8 e, way_depth doc (suc i) tree i d.items (omega arith) d.way, d.many)

  -- what an accepted record shows
  passed : (j : ℕ) → read_record doc j ≡ Accepted → InTree doc j
  unfolding read_record
  passed j e = let w = simp (says, node_row) at e in stands_at doc j w.1.0 w.1.1.0

  -- 4, 5, 6, 8 at a record, where those before it are accepted
  record_says : (i : ℕ) → ((j : ℕ) → j < i → read_record doc j ≡ Accepted) → Says (read_record doc i) (record_lines doc i)
  unfolding read_record
  record_says i before =
      then_says (need (eqb (doc.spare i) 0) 4 i) _ (need-broken (eqb (doc.spare i) 0) (eq_passes (doc.spare i) 0))
      (λ a. then_says (need (node_fields (node doc i)) 5 i) _ (need-broken (node_fields (node doc i)) (node_row (node doc i)))
      (λ b. let t = (node_row (node doc i)).0 (simp says at b) in
      then_says (need (parent_fits doc i) 6 i) _ (need-says (parent_fits doc i) (parent-right i t) (parent-wrong i t))
      (λ c. let tree : (j : ℕ) → j < suc i → InTree doc j =
      λ j h. ⊎_elim (λ q. rw q (stands_at doc i t (simp says at c))) (λ l. passed j (before j l)) (eq-or-lt_of_le (le_of_suc-le-suc h)) in
      need-says (leb (depth doc i) 8) (shallow i tree) (deep i tree))))

  pub records-say : Says (earliest (read_record doc) 0 doc.size) (each doc.size (record_lines doc))
  records-say = each-says (read_record doc) (record_lines doc) 0 doc.size (λ i a b before. record_says i (λ j l. before j (omega arith) l))
