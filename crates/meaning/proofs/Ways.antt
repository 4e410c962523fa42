-- The items that the test of depth counts are those on the way from the root, where each record has its place in the tree.
use mathlib.Core.Path.{◌≡◌, refl, ap, ◌∙◌}
use mathlib.Core.Logic.{◌⊎◌, ⊎_elim}
use Prim.Native.Nat.{ℕ, zero, suc, ◌≤◌, ◌<◌}
use native.Mathlib.Omega.{arith}
use borrow.Author.Tests.{eq-eqb, ne_eqb}
use Rattle.meaning.specs.Document.{Doc}
use Rattle.meaning.specs.Nodes.{items_up, depth}
use Rattle.meaning.proofs.Basics.{le_or_lt}
use Rattle.meaning.proofs.Sound.{Way, root, to_item, to_version}

-- record i stands in the tree: the first is an item, a later one is an item or a version below its parent
pub record InTree (doc : Doc) (i : ℕ) : Type 0 where
  pub first : i ≡ 0 → doc.kind i ≡ 1
  pub lower : 0 < i → doc.parent i < i
  pub kind : (doc.kind i ≡ 1) ⊎ (doc.kind i ≡ 2)

-- one step up the way: from the first record, an item, a version
module _ (doc : Doc) (n i : ℕ) where
  at_first : i ≡ 0 → doc.kind i ≡ 1 → items_up doc (suc n) i ≡ 1
  unfolding items_up
  at_first e k = rw (k, eq-eqb i 0 e)

  from-item : 0 < i → doc.kind i ≡ 1 → items_up doc (suc n) i ≡ suc (items_up doc n (doc.parent i))
  unfolding items_up
  from-item z k = rw (k, ne_eqb i 0 (λ e. omega arith)) (omega arith)

  from-version : 0 < i → doc.kind i ≡ 2 → items_up doc (suc n) i ≡ items_up doc n (doc.parent i)
  unfolding items_up
  from-version z k = rw (k, ne_eqb i 0 (λ e. omega arith)) (omega arith)

module _ (doc : Doc) (m : ℕ) (stands : (i : ℕ) → i < m → InTree doc i) where
  -- what is counted in more steps than the record's number is a way
  found : (n i : ℕ) → i < n → i < m → Way doc i (items_up doc n i)
  found zero i h l = absurd (omega arith)
  found (suc n) i h l =
      let s = stands i l in
      ⊎_elim
      (λ (z : i ≤ 0). let e : i ≡ 0 = omega arith in rw (at_first doc n i e (s.first e), e) root)
      (λ (z : 0 < i).
      let p = s.lower z in
      let up = found n (doc.parent i) (omega arith) (omega arith) in
      ⊎_elim
      (λ k. rw (from-item doc n i z k) (to_item i (items_up doc n (doc.parent i)) z k up))
      (λ k. rw (from-version doc n i z k) (to_version i (items_up doc n (doc.parent i)) z k up))
      s.kind)
      (le_or_lt i 0)

  -- .. and there is no other
  counted : (n : ℕ) {i k : ℕ} → Way doc i k → i < n → i < m → items_up doc n i ≡ k
  counted zero w h l = absurd (omega arith)
  counted (suc n) root h l = at_first doc n 0 refl ((stands 0 l).first refl)
  counted (suc n) (to_item i k z e w) h l =
      let p = (stands i l).lower z in
      from-item doc n i z e ∙ ap suc (counted n w (omega arith) (omega arith))
  counted (suc n) (to_version i k z e w) h l =
      let p = (stands i l).lower z in
      from-version doc n i z e ∙ counted n w (omega arith) (omega arith)

  pub depth-way : (i : ℕ) → i < m → Way doc i (depth doc i)
  unfolding depth
  depth-way i l = found (suc i) i (omega arith) l

  pub way_depth : (i n : ℕ) → i < m → Way doc i n → depth doc i ≡ n
  unfolding depth
  way_depth i n l w = counted (suc i) w (omega arith) l
