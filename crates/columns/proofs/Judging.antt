-- An accepted document is one that can be judged.
use mathlib.Core.Path.{◌≡◌, refl}
use mathlib.Core.Logic.{⊎_elim}
use Prim.Native.Nat.{ℕ, ◌≤◌, ◌<◌}
use native.Mathlib.Omega.{arith}
use Rattle.meaning.specs.Reading.{Accepted}
use Rattle.meaning.specs.Block.{limit}
use Rattle.meaning.specs.Document.{Doc, node}
use Rattle.meaning.specs.Nodes.{accept}
use Rattle.meaning.proofs.Basics.{le_or_lt}
use Rattle.meaning.proofs.Rows.{ItemRow, VersionRow}
use Rattle.meaning.proofs.Sound.{Version, Sound}
use Rattle.meaning.proofs.Slices.{stands, present-alive}
use Rattle.meaning.proofs.Accepted.{periods, accepted-sound}
use Rattle.columns.specs.Judgeable.{Seated, Judgeable}

module _ (doc : Doc) (few : doc.size ≤ limit) (s : Sound doc) where
  dated : (i : ℕ) → i < doc.size → (doc.begin i ≤ 36525) × (doc.end i ≤ 36525)
  dated i h =
      ⊎_elim
      (λ (item : ItemRow (node doc i)). (omega (arith, item.begin), omega (arith, item.end)))
      (λ (version : VersionRow (node doc i)). (omega (arith, version.period, version.period_end), omega (arith, version.period_end)))
      (s.records.table i h)

  top : doc.size ≤ doc.parent 0
  top = ⊎_elim (λ (none : doc.size ≤ 0). omega arith) (λ (some : 0 < doc.size). omega (arith, few, s.records.root_parent some)) (le_or_lt doc.size 0)

  seated : (v : ℕ) → doc.kind v ≡ 2 → Seated doc v
  seated v k =
      let t = stands doc s.records v k in
      let w : Version doc (doc.parent v) v = record { here = t.here; kind = k; of = refl } in
      record {
        here = t.here;
        lasts = periods doc s.records v w;
        up = t.up;
        item = t.item;
        over = λ q.
            record {
              lower = (t.over q).0;
              version = (t.over q).1;
              from = s.placed.after (doc.parent v) v q w;
              to = s.placed.before (doc.parent v) v q w;
            };
      }

pub judgeable : (doc : Doc) → doc.size ≤ limit → accept doc ≡ Accepted → Judgeable doc
judgeable doc few e =
    let s = accepted-sound doc e in
    record { few = few; top = top doc few s; dated = dated doc few s; seated = seated doc few s; present = present-alive doc s }
