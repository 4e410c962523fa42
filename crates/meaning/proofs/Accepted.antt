-- A document is accepted exactly where it is sound.
use mathlib.Core.Path.{◌≡◌}
use Prim.Native.Nat.{ℕ, ◌<◌}
use native.Mathlib.Omega.{arith}
use Rattle.meaning.specs.Reading.{Accepted}
use Rattle.meaning.specs.Document.{Doc}
use Rattle.meaning.specs.Nodes.{document_tests, accept}
use Rattle.meaning.proofs.Sound.{Version, SoundRecords, Sound}
use Rattle.meaning.proofs.Orders.{order-passed, passed-order}
use Rattle.meaning.proofs.Says.{says}
use Rattle.meaning.proofs.Records.{version-at, sound-records}
use Rattle.meaning.proofs.Places.{placed}
use Rattle.meaning.proofs.Numbers.{numbered}
use Rattle.meaning.proofs.Roots.{rooted}

module _ (doc : Doc) where
  -- a version has a period
  pub periods : SoundRecords doc → {i : ℕ} (v : ℕ) → Version doc i v → doc.begin v < doc.end v
  periods r v w = (version-at doc v (r.table v w.here) w.kind).period

  -- what is accepted is sound, and what is sound is accepted
  pub accepted-sound : accept doc ≡ Accepted → Sound doc
  unfolding accept document_tests
  accepted-sound e =
      let h = simp says at (order-passed (document_tests doc) e) in
      let r = (sound-records doc).0 h.0 in
      record {
        records = r;
        placed = (placed doc).0 h.1.0;
        numbered = (numbered doc).0 h.1.1.0;
        rooted = (rooted doc (periods r)).0 (h.1.1.1.0 0 (omega arith));
      }

  pub sound-accepted : Sound doc → accept doc ≡ Accepted
  unfolding accept document_tests
  sound-accepted s =
      let a = (sound-records doc).1 s.records in
      let b = (placed doc).1 s.placed in
      let c = (numbered doc).1 s.numbered in
      let d = (rooted doc (periods s.records)).1 s.rooted in
      passed-order (document_tests doc) (simp says (a, (b, (c, (λ j h. d, tt)))))
