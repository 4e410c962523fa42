-- No version is misplaced exactly where `Placed` holds; the test `version_of` passes exactly where `Version` holds.
use mathlib.Core.Path.{◌≡◌, refl, sym, ◌∙◌}
use mathlib.Core.Logic.{◌↔◌}
use mathlib.Core.Bool.{true, false}
use Prim.Native.Nat.{ℕ, ◌≤◌, ◌<◌}
use native.Mathlib.Omega.{arith}
use Rattle.meaning.specs.Document.{Doc, version_of, above}
use Rattle.meaning.specs.Nodes.{early, leaves, misplaced}
use Rattle.meaning.proofs.Sound.{Version, Placed}
use Rattle.meaning.proofs.Says.{says}

module _ (doc : Doc) where
  -- a record of some kind is one of the document's
  pub counted : (i : ℕ) → 0 < doc.kind i → i < doc.size
  counted i k = let in-it : doc.size ≤ i → ⊥ = λ h. omega (arith, doc.past i h) in omega arith

  -- the test says what it should, with no bound on v
  pub is-version_lem : (i v : ℕ) → version_of doc i v ≡ true → Version doc i v
  unfolding version_of
  is-version_lem i v e = let w = simp says at e in record { here = counted v (omega arith); kind = w.0; of = w.1 }

  pub version-test : (i v : ℕ) → Version doc i v → version_of doc i v ≡ true
  unfolding version_of
  version-test i v w = simp says (w.kind, w.of)

  pub version-says : (i v : ℕ) → (version_of doc i v ≡ true) ↔ Version doc i v
  version-says i v = (is-version_lem i v, version-test i v)

  -- 7: the test at every record is the statement
  pub placed : ((v : ℕ) → v < doc.size → misplaced doc v ≡ false) ↔ Placed doc
  unfolding misplaced early leaves
  placed = (
    λ f. let g = simp (says, version-says) at f in
        record {
          order = λ i u v h x y. (g v y.here y.kind).0 u (omega arith) (omega arith) (record { here = x.here; kind = x.kind; of = x.of ∙ sym y.of });
          after = λ i v h w. rw (w.of, above) at ((g v w.here w.kind).1 (λ z. omega arith)).0;
          before = λ i v h w. rw (w.of, above) at ((g v w.here w.kind).1 (λ z. omega arith)).1;
        },
    λ p. simp (says, version-says) (λ v h k.
        let w : Version doc (doc.parent v) v = record { here = h; kind = k; of = refl } in (
          λ u a b x. p.order (doc.parent v) u v (omega arith) x w,
          λ z. (p.after (doc.parent v) v (omega arith) w, p.before (doc.parent v) v (omega arith) w),
        )),
  )
