-- From the record pass on to 7: what the one has shown is what the other asks, and 7 over its four columns is 7 over all nine.
use mathlib.Core.Path.{◌≡◌, refl, sym, ◌∙◌}
use mathlib.Core.List.{List}
use Prim.Native.Nat.{ℕ}
use native.Mathlib.Omega.{arith}
use lib.IntN.{ℤ}
use lib.ListN.{length}
use Rattle.meaning.specs.Reading.{Reading, Accepted}
use Rattle.meaning.specs.Order.{earliest}
use Rattle.meaning.specs.Walk.{first}
use Rattle.meaning.specs.Document.{Doc, columns, version_of}
use Rattle.meaning.specs.Nodes.{read_record, early, leaves, misplaced}
use Rattle.meaning.proofs.Orders.{earliest-all}
use Rattle.meaning.proofs.Places.{counted}
use Rattle.meaning.proofs.Records.{version-at, sound-records}
use Rattle.meaning.proofs.Sound.{SoundRecords}
use Rattle.meaning.proofs.Walks.{first-same}
use Rattle.document.specs.Columns.{Even}
use Rattle.document.specs.Steady.{Steady, periods, Placing}

accepted-sound : (doc : Doc) → earliest (read_record doc) 0 doc.size ≡ Accepted → SoundRecords doc
accepted-sound doc e = (sound-records doc).0 (λ i h. earliest-all (read_record doc) 0 doc.size e i (omega arith) (omega arith))

sound-steady : (doc : Doc) → SoundRecords doc → Steady doc
sound-steady doc r =
    record {
      lower = r.lower;
      root = λ k. omega (arith, r.root_item (counted doc 0 (omega arith)));
      period = λ v h k. omega (arith, (version-at doc v (r.table v h) k).period);
    }

module _ (kinds vkinds names parents begins ends : List ℕ) (values : List ℤ) (items spares : List ℕ) where
  abbrev all : Doc
  all = columns kinds vkinds names parents begins ends values items spares

  -- x is what the record pass gave
  pub sound-placing : Even kinds vkinds names parents begins ends values items spares → (x : Reading) → x ≡ earliest (read_record all) 0 (length kinds) → x ≡ Accepted → Placing kinds parents begins ends
  sound-placing s x ex ax =
      let t = sound-steady all (accepted-sound all (sym ex ∙ ax)) in
      record {
        few = s.few;
        parent = s.parent;
        begin = s.begin;
        end = s.end;
        steady = record { lower = t.lower; root = t.root; period = t.period };
      }

  misplaced-same : (v : ℕ) → misplaced (periods kinds parents begins ends) v ≡ misplaced all v
  unfolding misplaced early leaves version_of
  misplaced-same v = refl

  pub first-misplaced_same : first (misplaced (periods kinds parents begins ends)) 0 (length kinds) ≡ first (misplaced all) 0 (length kinds)
  first-misplaced_same = first-same (misplaced (periods kinds parents begins ends)) (misplaced all) 0 (length kinds) (λ v a b. misplaced-same v)
