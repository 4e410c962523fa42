-- Columns of zeros, filled with what was unpacked: the room in them, and what they then hold, entry by entry.
use mathlib.Core.Path.{◌≡◌, refl, sym, ap, ◌∙◌}
use mathlib.Core.List.{List}
use Prim.Native.Nat.{ℕ, ◌≤◌}
use native.Mathlib.Omega.{arith}
use lib.IntN.{ℤ, pos}
use lib.ListN.{length, take, length-replicate}
use Rattle.meaning.specs.declared.Node.{Node}
use Rattle.meaning.specs.Reading.{Reading, Accepted, Refused}
use Rattle.std.specs.Prelude.{Result}
use Rattle.meaning.specs.declared.Refusal.{Refusal}
use Rattle.meaning.specs.Order.{in_order}
use Rattle.meaning.specs.Bytes.{byte, two, four, signed}
use Rattle.meaning.specs.Block.{node_form, image_tests, records, record_of, limit}
use Rattle.meaning.specs.Document.{columns}
use Rattle.meaning.specs.Nodes.{node_in, nodes_of, accept, read_nodes}
use Rattle.document.specs.Front.{Front}
use Rattle.nodes.specs.Filled.{filled}
use Rattle.nodes.specs.Loading.{loaded, tell_loaded}
use Rattle.nodes.specs.Unpacking.{Unpacks, Blank, together, records_after, records_in, blank, column_of}
use Rattle.nodes.proofs.Unpacked.{image-document}
use Rattle.nodes.proofs.Loads.{by-block, by-document, counted, field_column}

-- a column of zeros has room for the largest document
blank-room : {A : Type 0} (zero : A) (column : List A) → column ≡ blank zero → limit ≤ length column
blank-room zero column e = let l : length column ≡ limit = ap length e ∙ length-replicate limit zero in omega arith

pub blank-front : {k v n p b e : List ℕ} {z : List ℤ} {i s : List ℕ} → Blank k v n p b e z i s
    → Front limit (length k) (length v) (length n) (length p) (length b) (length e) (length z) (length i) (length s)
blank-front c =
    record {
      few = omega arith;
      kind = blank-room 0 _ c.kind;
      vkind = blank-room 0 _ c.vkind;
      name = blank-room 0 _ c.name;
      parent = blank-room 0 _ c.parent;
      begin = blank-room 0 _ c.begin;
      end = blank-room 0 _ c.end;
      value = blank-room (pos 0) _ c.value;
      item = blank-room 0 _ c.item;
      spare = blank-room 0 _ c.spare;
    }

module _ (image : List ℕ) where
  -- the records of good blocks are unpacked
  pub records-good : in_order (image_tests node_form image) ≡ Accepted → records_in image ≡ nodes_of image
  unfolding records_in records_after
  records-good e = rw e

  -- a block was refused: the column is as it was
  module _ {k p : ℕ} (e : in_order (image_tests node_form image) ≡ Refused k p) where
    column_none : {A : Type 0} (field : Node → A) (zero : A) {column : List A} → column ≡ blank zero → column ≡ column_of field zero image
    unfolding column_of records_in records_after
    column_none field zero c = rw e c

    pub unpacks_none : {y : Reading} → y ≡ in_order (image_tests node_form image) → (m : ℕ) {x : Result ℕ Refusal} → x ≡ loaded y m
        → {kinds vkinds names parents begins ends : List ℕ} {values : List ℤ} {items spares : List ℕ} → Blank kinds vkinds names parents begins ends values items spares
        → Unpacks image (together x kinds vkinds names parents begins ends values items)
    unpacks_none {y} ey m {x} ex c =
        let r : y ≡ Refused k p = ey ∙ e in
        let read : read_nodes image ≡ Refused k p = sym (by-block image ey r) ∙ r in
        record {
          answer = ap tell_loaded (ex ∙ rw (r, read));
          kind = column_none (λ (n : Node). n.kind) 0 c.kind;
          vkind = column_none (λ (n : Node). n.vkind) 0 c.vkind;
          name = column_none (λ (n : Node). n.name) 0 c.name;
          parent = column_none (λ (n : Node). n.parent) 0 c.parent;
          begin = column_none (λ (n : Node). n.begin) 0 c.begin;
          end = column_none (λ (n : Node). n.end) 0 c.end;
          value = column_none (λ (n : Node). n.value) (pos 0) c.value;
          item = column_none (λ (n : Node). n.item) 0 c.item;
        }

  -- blocks that are good: their records in nine columns, the document's tests on these, and the answer made of them
  module _ (good : in_order (image_tests node_form image) ≡ Accepted) (n : ℕ) (en : n ≡ records node_form image) where
    column_all : {A : Type 0} (field : Node → A) (zero : A) {old : List A} → old ≡ blank zero → {out : List A} → out ≡ filled (λ i. field (node_in (record_of node_form image i))) n old
        → out ≡ column_of field zero image
    unfolding column_of
    column_all field zero {old} c {out} f = rw (records-good good, counted image n en, sym c) (field_column image n en field old out f)

    pub unpacks_all : {k₀ v₀ n₀ p₀ b₀ e₀ : List ℕ} {z₀ : List ℤ} {i₀ s₀ : List ℕ} → Blank k₀ v₀ n₀ p₀ b₀ e₀ z₀ i₀ s₀
        → {kinds vkinds names parents begins ends : List ℕ} {values : List ℤ} {items spares : List ℕ}
        → kinds ≡ filled (λ i. byte (record_of node_form image i) 0) n k₀ → vkinds ≡ filled (λ i. byte (record_of node_form image i) 1) n v₀
        → names ≡ filled (λ i. two (record_of node_form image i) 2) n n₀ → parents ≡ filled (λ i. two (record_of node_form image i) 4) n p₀
        → begins ≡ filled (λ i. two (record_of node_form image i) 6) n b₀ → ends ≡ filled (λ i. two (record_of node_form image i) 8) n e₀
        → values ≡ filled (λ i. signed (four (record_of node_form image i) 10)) n z₀ → items ≡ filled (λ i. four (record_of node_form image i) 14) n i₀
        → spares ≡ filled (λ i. two (record_of node_form image i) 18) n s₀
        → {y : Reading} → y ≡ accept (columns (take n kinds) (take n vkinds) (take n names) (take n parents) (take n begins) (take n ends) (take n values) (take n items) (take n spares))
        → {x : Result ℕ Refusal} → x ≡ loaded y n → Unpacks image (together x kinds vkinds names parents begins ends values items)
    unfolding node_in
    unpacks_all {k₀} {v₀} {n₀} {p₀} {b₀} {e₀} {z₀} {i₀} {s₀} c hk hv hn hp hb he hz hi hs {y} ey ex =
        let read : y ≡ read_nodes image = by-document image (sym good) refl (ey ∙ ap accept (image-document image n en k₀ v₀ n₀ p₀ b₀ e₀ z₀ i₀ s₀ hk hv hn hp hb he hz hi hs)) in
        record {
          answer = ap tell_loaded (rw (← read, counted image n en) ex);
          kind = column_all (λ (m : Node). m.kind) 0 c.kind hk;
          vkind = column_all (λ (m : Node). m.vkind) 0 c.vkind hv;
          name = column_all (λ (m : Node). m.name) 0 c.name hn;
          parent = column_all (λ (m : Node). m.parent) 0 c.parent hp;
          begin = column_all (λ (m : Node). m.begin) 0 c.begin hb;
          end = column_all (λ (m : Node). m.end) 0 c.end he;
          value = column_all (λ (m : Node). m.value) (pos 0) c.value hz;
          item = column_all (λ (m : Node). m.item) 0 c.item hi;
        }
