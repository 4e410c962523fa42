-- Every record passes its tests exactly where `SoundRecords` holds; a version's row from its kind; how depth grows from parent to child.
use mathlib.Core.Path.{◌≡◌, refl}
use mathlib.Core.Logic.Iff
use mathlib.Core.Logic.{◌↔◌, ◌⊎◌, ⊎_elim, ⊎_map}
use mathlib.Core.Bool.{true, cond, or-false}
use Prim.Native.Nat.{ℕ, zero, suc, ◌+◌, ◌≤◌, ◌<◌}
use native.Mathlib.Omega.{arith}
use borrow.Author.Tests.{eq-eqb, ne_eqb}
use Rattle.meaning.specs.Reading.{Accepted}
use Rattle.meaning.specs.Document.{Doc, node, is_item}
use Rattle.meaning.specs.Nodes.{parent_fits, items_up, depth, read_record}
use Rattle.meaning.proofs.Rows.{ItemRow, VersionRow}
use Rattle.meaning.proofs.Sound.{SoundRecords}
use Rattle.meaning.proofs.Ways.{InTree, depth-way, way_depth}
use Rattle.meaning.proofs.Basics.{le_or_lt}
use Rattle.meaning.proofs.Says.{says}
use Rattle.meaning.proofs.Tables.{node_row}

module _ (doc : Doc) where
  -- a record of kind 2 has a version's row
  pub version-at : (i : ℕ) → ItemRow (node doc i) ⊎ VersionRow (node doc i) → doc.kind i ≡ 2 → VersionRow (node doc i)
  version-at i t k = ⊎_elim (λ x. absurd (omega arith)) (λ x. x) t

  -- 6: record 0, and a later record of the table
  pub root-fits : (parent_fits doc 0 ≡ true) ↔ ((doc.kind 0 ≡ 1) × (doc.parent 0 ≡ 65535))
  unfolding parent_fits
  root-fits = simp says Iff.rfl

  abbrev pub Kin : ℕ → Type 0
  Kin i = (doc.parent i < i) × (doc.kind i ≡ 2 → doc.kind (doc.parent i) ≡ 1) × (doc.kind i ≡ 1 → doc.kind (doc.parent i) ≡ 2)

  pub later-fits : (i : ℕ) → 0 < i → ItemRow (node doc i) ⊎ VersionRow (node doc i) → (parent_fits doc i ≡ true) ↔ Kin i
  unfolding parent_fits
  later-fits zero h t = absurd (omega arith)
  later-fits (suc i) h t = (
    λ e. ((simp says at e).0, λ k. (simp says at (rw k at e)).1.1, λ k. (simp (says, or-false) at (rw k at e)).1.1),
    λ q. ⊎_elim (λ x. rw x.kind (simp (says, or-false) (q.0, (refl, q.2 x.kind)))) (λ x. rw x.kind (simp says (q.0, (refl, q.1 x.kind)))) t,
  )

  -- a record that passes 5 and 6 stands in the tree
  pub stands_at : (i : ℕ) → ItemRow (node doc i) ⊎ VersionRow (node doc i) → parent_fits doc i ≡ true → InTree doc i
  stands_at i t e =
      record {
        first = λ z. rw z (root-fits.0 (rw z at e)).0;
        lower = λ z. ((later-fits i z t).0 e).0;
        kind = ⊎_map (λ x. x.kind) (λ x. x.kind) t;
      }

  -- 8 of sound records: the depth counted is that of their way
  pub records-stand : SoundRecords doc → (i : ℕ) → i < doc.size → InTree doc i
  records-stand r i h =
      record {
        first = λ z. rw z (r.root_item (omega arith));
        lower = λ z. r.lower i z h;
        kind = ⊎_map (λ x. x.kind) (λ x. x.kind) (r.table i h);
      }

  pub depth-most : SoundRecords doc → (i : ℕ) → i < doc.size → depth doc i ≤ 8
  depth-most r i h = r.shallow i (depth doc i) h (depth-way doc doc.size (records-stand r) i h)

  -- 4, 5, 6, 8: the tests of every record are the statement
  pub sound-records : ((i : ℕ) → i < doc.size → read_record doc i ≡ Accepted) ↔ SoundRecords doc
  unfolding read_record
  sound-records = (
    λ f. let g = simp (says, node_row) at f in
        let root : 0 < doc.size → (doc.kind 0 ≡ 1) × (doc.parent 0 ≡ 65535) = λ h. root-fits.0 (g 0 h).1.1.0 in
        let kin : (i : ℕ) → 0 < i → i < doc.size → Kin i = λ i z h. (later-fits i z (g i h).1.0).0 (g i h).1.1.0 in
        let stands : (i : ℕ) → i < doc.size → InTree doc i = λ i h. stands_at i (g i h).1.0 (g i h).1.1.0 in
        record {
          spare = λ i h. (g i h).0;
          table = λ i h. (g i h).1.0;
          root_item = λ h. (root h).0;
          root_parent = λ h. (root h).1;
          lower = λ i z h. (kin i z h).0;
          of_item = λ i z h. (kin i z h).1;
          of_version = λ i z h. (kin i z h).2;
          shallow = λ i n h w. omega (arith, way_depth doc doc.size stands i n h w, (g i h).1.1.1);
        },
    λ r. let fits : (i : ℕ) → i < doc.size → parent_fits doc i ≡ true = λ i h. ⊎_elim
        (λ (z : i ≤ 0). let e : i ≡ 0 = omega arith in rw e (root-fits.1 (r.root_item (omega arith), r.root_parent (omega arith))))
        (λ (z : 0 < i). (later-fits i z (r.table i h)).1 (r.lower i z h, r.of_item i z h, r.of_version i z h))
        (le_or_lt i 0) in
        simp (says, node_row) (λ i h. (r.spare i h, (r.table i h, (fits i h, depth-most r i h)))),
  )

  -- depth: at record 0, and at an item
  pub depth-root : depth doc 0 ≡ cond {A = ℕ} (is_item doc 0) 1 0
  unfolding depth items_up
  depth-root = omega arith

  pub item-deep : (i : ℕ) → doc.kind i ≡ 1 → 1 ≤ depth doc i
  unfolding depth items_up
  item-deep i k = rw k (omega arith)

-- where parents are lower below m
module _ (doc : Doc) (m : ℕ) (lower : (i : ℕ) → 0 < i → i < m → doc.parent i < i) where
  -- more steps than the record's number change nothing
  fuel : (k n i : ℕ) → i < k → i < n → i < m → items_up doc k i ≡ items_up doc n i
  unfolding items_up
  fuel zero n i a b h = absurd (omega arith)
  fuel (suc k) zero i a b h = absurd (omega arith)
  fuel (suc k) (suc n) i a b h =
      ⊎_elim
      (λ (z : i ≤ 0). rw (eq-eqb i 0 (omega arith)))
      (λ (z : 0 < i). let l = lower i z h in rw (fuel k n (doc.parent i) (omega arith) (omega arith) (omega arith)))
      (le_or_lt i 0)

  -- the depth of a record past the first is its parent's, one more for an item
  pub depth-up : (i : ℕ) → 0 < i → i < m → depth doc i ≡ cond {A = ℕ} (is_item doc i) 1 0 + depth doc (doc.parent i)
  unfolding depth items_up
  depth-up i z h =
      let l = lower i z h in
      rw (ne_eqb i 0 (λ e. omega arith), fuel i (suc (doc.parent i)) (doc.parent i) l (omega arith) (omega arith))
