-- The tests of a whole document refuse exactly as the lines of 01's table are due: 7, 9 and 10; and so a node image as a whole, 1 to 10.
use mathlib.Core.Path.{◌≡◌, refl, sym, ◌∙◌}
use mathlib.Core.Logic.{⊎_elim}
use mathlib.Core.Bool.{true, false, ◌&&◌, not}
use mathlib.Core.List.{List}
use Prim.Native.Nat.{ℕ, ◌<◌}
use native.Mathlib.Omega.{arith}
use borrow.Author.Tests.{eqb-true, eqb-false, ltb-true, not-true, not-false}
use lib.Dec.{eqb, ltb}
use Rattle.meaning.specs.Reading.{Accepted}
use Rattle.meaning.specs.Walk.{any}
use Rattle.meaning.specs.Order.{need, earliest, in_order}
use Rattle.meaning.specs.Block.{node_form, image_tests}
use Rattle.meaning.specs.Document.{Doc, is_version, is_item, version_of, above}
use Rattle.meaning.specs.Nodes.{doc_of, read_record, early, leaves, misplaced, share_day, overlap, clash, clashes, whole, document_tests, accept, read_nodes}
use Rattle.meaning.proofs.Basics.{or_cases, and_l, and_r, le_or_lt}
use Rattle.meaning.proofs.Walks.{any-true}
use Rattle.meaning.proofs.Orders.{earliest-all}
use Rattle.meaning.proofs.Says.{says}
use Rattle.meaning.proofs.Sound.{Version, SoundRecords, Placed}
use Rattle.meaning.proofs.Records.{sound-records, version-at}
use Rattle.meaning.proofs.Places.{counted, is-version_lem, version-says, placed}
use Rattle.meaning.proofs.Roots.{rooted, not_whole}
use Rattle.meaning.proofs.Lines.{joined, Says, accepts, need-says, then_says, each-says, one-says}
use Rattle.meaning.proofs.Due.{Misplaced, early as too-early, begins_before, ends_after, HasDay, OneNumber, Clashes, other_name, shared_day, Unrooted, no_version, gap, document_lines, node_lines}
use Rattle.meaning.proofs.DueBlocks.{blocks-say}
use Rattle.meaning.proofs.DueRecords.{records-say}

module _ (doc : Doc) where
  -- 7
  due_7 : (v : ℕ) → misplaced doc v ≡ true → Misplaced doc v
  unfolding misplaced early leaves
  due_7 v e =
      let i = doc.parent v in
      let k : doc.kind v ≡ 2 = eqb-true (doc.kind v) 2 (and_l (is_version doc v) _ e) in
      let this : Version doc i v = record { here = counted doc v (omega arith); kind = k; of = refl } in
      ⊎_elim
      (λ y. let w = any-true (λ u. version_of doc i u && ltb (doc.begin v) (doc.end u)) 0 v y in
      let p = simp (says, version-says) at w.1.passes in
      too-early i w.0 (omega (arith, w.1.below)) p.0 this p.1)
      (λ z. let apart = (simp says at (and_l (not (eqb i 0)) _ z)) in
      let below : 0 < i = omega arith in
      ⊎_elim (λ a. begins_before i below this (ltb-true _ _ a)) (λ b. ends_after i below this (ltb-true _ _ b)) (or_cases _ _ (and_r (not (eqb i 0)) _ z)))
      (or_cases (early doc v) (leaves doc v) (and_r (is_version doc v) _ e))

  not_7 : (v : ℕ) → misplaced doc v ≡ false → Misplaced doc v → ⊥
  unfolding misplaced early leaves
  not_7 v e (too-early i u l x y h) =
      let w = ((simp (says, version-says) at e) y.kind).0 u (omega arith) (omega arith) (record { here = x.here; kind = x.kind; of = x.of ∙ sym y.of }) in
      omega arith
  not_7 v e (begins_before i z w h) = let p = (((simp says at e) w.kind).1 (λ q. omega (arith, w.of))).0 in omega (arith, rw (w.of, above) at p)
  not_7 v e (ends_after i z w h) = let p = (((simp says at e) w.kind).1 (λ q. omega (arith, w.of))).1 in omega (arith, rw (w.of, above) at p)

  -- 9: two periods that begin before the other ends share a day
  share : {u v : ℕ} → doc.begin u < doc.end u → doc.begin v < doc.end v → doc.begin u < doc.end v → doc.begin v < doc.end u → (d : ℕ) × HasDay doc u d × HasDay doc v d
  share {u} {v} p q a b =
      ⊎_elim
      (λ h. (doc.begin v, record { begun = h; lasts = b }, record { begun = omega arith; lasts = q }))
      (λ h. (doc.begin u, record { begun = omega arith; lasts = p }, record { begun = omega arith; lasts = a }))
      (le_or_lt (doc.begin u) (doc.begin v))

  due_9 : ((v : ℕ) → v < doc.size → doc.kind v ≡ 2 → doc.begin v < doc.end v) → (i : ℕ) → clashes doc i ≡ true → Clashes doc i
  unfolding clashes clash overlap share_day
  due_9 period i e =
      let k = eqb-true (doc.kind i) 1 (and_l (is_item doc i) _ e) in
      let w = any-true (clash doc i) 0 i (and_r (is_item doc i) _ e) in
      let j = w.0 in
      let h = w.1.below in
      let numbers = is_item doc j && eqb (doc.item j) (doc.item i) in
      let same = simp says at (and_l numbers _ w.1.passes) in
      let one : OneNumber doc j i =
      record { lower = omega arith; one = record { here = counted doc j (omega (arith, same.0)); kind = same.0 }; other = record { here = counted doc i (omega arith); kind = k }; same = same.1 } in
      ⊎_elim
      (λ y. other_name j one (eqb-false (doc.name j) (doc.name i) (not-true _ y)))
      (λ y. let a = any-true (λ u. version_of doc j u && any (λ v. version_of doc i v && share_day doc u v) 0 doc.size) 0 doc.size y in
      let u = a.0 in
      let x : Version doc j u = is-version_lem doc j u (and_l (version_of doc j u) _ a.1.passes) in
      let b = any-true (λ v. version_of doc i v && share_day doc u v) 0 doc.size (and_r (version_of doc j u) _ a.1.passes) in
      let z : Version doc i b.0 = is-version_lem doc i b.0 (and_l (version_of doc i b.0) _ b.1.passes) in
      let days = simp says at (and_r (version_of doc i b.0) _ b.1.passes) in
      let d = share (period u x.here x.kind) (period b.0 z.here z.kind) days.0 days.1 in
      shared_day j u b.0 d.0 one x z d.1 d.2)
      (or_cases _ _ (and_r numbers _ w.1.passes))

  not_9 : (i : ℕ) → clashes doc i ≡ false → Clashes doc i → ⊥
  unfolding clashes clash overlap share_day
  not_9 i e (other_name j o f) = f ((simp (says, version-says) at e) o.other.kind j (omega arith) (omega (arith, o.lower)) (o.one.kind, o.same)).0
  not_9 i e (shared_day j u v d o x y a b) =
      let p = ((simp (says, version-says) at e) o.other.kind j (omega arith) (omega (arith, o.lower)) (o.one.kind, o.same)).1 u (omega arith) (omega (arith, x.here)) x v (omega arith) (omega (arith, y.here)) y (omega arith) in
      omega arith

  -- 10
  due_10 : ((v : ℕ) → Version doc 0 v → doc.begin v < doc.end v) → Placed doc → whole doc ≡ false → Unrooted doc
  due_10 period p e =
      ⊎_elim no_version
      (λ g. gap g.0 g.1 g.2 g.3 g.4 g.5 (omega (arith, p.order 0 g.0 g.1 g.2 g.3 g.4, g.6)))
      (not_whole doc period e)

  not_10 : ((v : ℕ) → Version doc 0 v → doc.begin v < doc.end v) → whole doc ≡ true → Unrooted doc → ⊥
  not_10 period e (no_version f) = let r = (rooted doc period).0 e in f r.some.0 r.some.1
  not_10 period e (gap u v l x y f h) = let n = ((rooted doc period).0 e).next u v l x y f in omega arith

  -- a version of a document whose records passed has a period
  period-of : SoundRecords doc → (v : ℕ) → v < doc.size → doc.kind v ≡ 2 → doc.begin v < doc.end v
  period-of r v h k = (version-at doc v (r.table v h) k).period

  -- 4 to 10
  pub document-says : Says (accept doc) (document_lines doc)
  unfolding accept document_tests in_order joined
  document-says =
      then_says (earliest (read_record doc) 0 doc.size) _ (records-say doc)
      (λ a. let r = (sound-records doc).0 (λ i h. earliest-all (read_record doc) 0 doc.size a i (omega arith) (omega arith)) in
      let period = period-of r in
      then_says (earliest (λ i. need (not (misplaced doc i)) 7 i) 0 doc.size) _
      (each-says _ _ 0 doc.size (λ v c d f. need-says (not (misplaced doc v)) (λ y. not_7 v (not-true _ y)) (λ z. due_7 v (not-false _ z))))
      (λ b. let passes : (i : ℕ) → i < doc.size → need (not (misplaced doc i)) 7 i ≡ Accepted =
      λ i h. earliest-all (λ j. need (not (misplaced doc j)) 7 j) 0 doc.size b i (omega arith) (omega arith) in
      let p = (placed doc).0 (simp says at passes) in
      then_says (earliest (λ i. need (not (clashes doc i)) 9 i) 0 doc.size) _
      (each-says _ _ 0 doc.size (λ i c d f. need-says (not (clashes doc i)) (λ y. not_9 i (not-true _ y)) (λ z. due_9 period i (not-false _ z))))
      (λ c. then_says (earliest (need (whole doc) 10) 0 1) _
      (one-says (need (whole doc) 10) (need-says (whole doc) (not_10 (λ v w. period v w.here w.kind)) (due_10 (λ v w. period v w.here w.kind) p)))
      (λ d. accepts tt))))

-- 1 to 10
pub nodes_say : (image : List ℕ) → Says (read_nodes image) (node_lines image)
unfolding read_nodes joined
nodes_say image =
    then_says (in_order (image_tests node_form image)) (accept (doc_of image)) (blocks-say node_form image (omega arith)) (λ e. document-says (doc_of image))
