-- What columns with room for the largest document hold of an image that was read into them: its own refusal beside them, or its document in their first entries.
use mathlib.Core.Path.{◌≡◌, refl, sym, ◌∙◌}
use mathlib.Core.List.{List, map}
use Prim.Native.Nat.{ℕ, ◌-◌, ◌≤◌}
use native.Mathlib.Nat.{sub-zero}
use native.Mathlib.Omega.{arith}
use lib.IntN.{pos}
use lib.ListN.{length, get_or, take, drop, length-map, length-take}
use lib.Seq.{take_at}
use Rattle.meaning.specs.declared.Node.{Node}
use Rattle.meaning.specs.Reading.{Reading, Accepted, Refused}
use Rattle.std.specs.Prelude.{Result, Ok, Err}
use Rattle.meaning.specs.declared.Refusal.{Refusal}
use Rattle.meaning.specs.Order.{in_order}
use Rattle.meaning.specs.Block.{node_form, image_tests, records, record_of, limit}
use Rattle.meaning.specs.Document.{of_nodes}
use Rattle.meaning.specs.Nodes.{node_in, nodes_of, doc_of, accept, read_nodes}
use Rattle.meaning.proofs.Orders.{then_accepted}
use Rattle.meaning.proofs.Walks.{length_listed}
use Rattle.block.specs.Fair.{Fair, Read}
use Rattle.block.proofs.Places.{count-all}
use Rattle.columns.specs.Lent.{Lends, Whole}
use Rattle.columns.specs.Judgeable.{Judgeable}
use Rattle.columns.proofs.Judging.{judgeable}
use Rattle.columns.specs.declared.Columns.{Columns}
use Rattle.nodes.specs.Loading.{loaded, tell_loaded}
use Rattle.nodes.specs.Unpacking.{Unpacks, blank, column_of}
use Rattle.nodes.proofs.Unique.{loaded-unique}
use Rattle.nodes.proofs.Loads.{blocks-good}
use Rattle.nodes.proofs.Blanks.{records-good}

fair : Fair node_form
fair = record { some = omega arith; room = omega arith; each_small = omega arith; most_small = omega arith; base_small = omega arith }

-- an answer is a reading's refusal, or how many records were read
module _ (y : Reading) (m : ℕ) {x : Result ℕ Refusal} (ex : tell_loaded x ≡ tell_loaded (loaded y m)) where
  same : x ≡ loaded y m
  same = loaded-unique x (loaded y m) ex

  pub told-refused : {k p : ℕ} → x ≡ Refused k p → y ≡ Refused k p
  told-refused {k} {p} r = go y refl
    where
      go : (z : Reading) → y ≡ z → y ≡ Refused k p
      go Accepted e = let w : Refused k p ≡ Ok m = sym r ∙ same ∙ rw e in let wrong : ◌≡◌ {A = ℕ} 0 1 = cc in absurd (omega arith)
      go (Err why) e = let w : Refused k p ≡ Err why = sym r ∙ same ∙ rw e in e ∙ cc

  pub told-nodes : {n : ℕ} → x ≡ Ok n → (y ≡ Accepted) × (n ≡ m)
  told-nodes {n} r = go y refl
    where
      go : (z : Reading) → y ≡ z → (y ≡ Accepted) × (n ≡ m)
      go Accepted e = let w : Ok n ≡ Ok m = sym r ∙ same ∙ rw e in (e, cc)
      go (Err why) e = let w : Ok n ≡ Err why = sym r ∙ same ∙ rw e in let wrong : ◌≡◌ {A = ℕ} 0 1 = cc in absurd (omega arith)

-- an accepted image, and how many records it has
pub record Held (image : List ℕ) (n : ℕ) : Type 0 where
  pub accepted : read_nodes image ≡ Accepted
  pub count : n ≡ length (nodes_of image)
  pub few : n ≤ limit

module _ (image : List ℕ) where
  nodes_few : read_nodes image ≡ Accepted → length (nodes_of image) ≤ limit
  unfolding nodes_of
  nodes_few a =
      let read : Read node_form image = record { fair = fair; accepted = blocks-good image a } in
      let all = count-all read refl refl in
      omega (arith, length_listed (λ i. node_in (record_of node_form image i)) 0 (records node_form image), all.count, all.few)

  -- the image's refusal, or how many records it has
  module _ {x : Result ℕ Refusal} (ex : tell_loaded x ≡ tell_loaded (loaded (read_nodes image) (length (nodes_of image)))) where
    pub refused_image : {k p : ℕ} → x ≡ Refused k p → read_nodes image ≡ Refused k p
    refused_image r = told-refused (read_nodes image) (length (nodes_of image)) ex r

    pub held-image : {n : ℕ} → x ≡ Ok n → Held image n
    held-image r = let t = told-nodes (read_nodes image) (length (nodes_of image)) ex r in record { accepted = t.0; count = t.1; few = omega (arith, t.1, nodes_few t.0) }

  -- accepted: the columns hold its document
  module _ {c : Columns} (u : Unpacks image c) {n : ℕ} (r : c.loaded ≡ Ok n) where
    pub held : Held image n
    held = held-image u.answer r

    -- one field, up to the count
    pub front : {A : Type 0} (field : Node → A) (zero : A) {column : List A} → column ≡ column_of field zero image → take n column ≡ map field (nodes_of image)
    unfolding column_of
    front field zero e =
        rw (e, records-good image (blocks-good image held.accepted))
        (take_at (map field (nodes_of image)) (drop (length (nodes_of image)) (blank zero)) n (length-map (nodes_of image) field ∙ sym held.count))

    lends : {A : Type 0} (field : Node → A) (zero : A) (column : List A) → column ≡ column_of field zero image
        → Lends (doc_of image).size (λ i. get_or (map field (nodes_of image)) i zero) zero (take (n - 0) column)
    unfolding doc_of of_nodes
    lends field zero column e =
        rw (sub-zero n, front field zero e) (record { size = length-map (nodes_of image) field ∙ sym (length-map (nodes_of image) (λ (x : Node). x.kind)); at = λ i. refl })

    pub size-held : (doc_of image).size ≡ n
    unfolding doc_of of_nodes
    size-held = length-map (nodes_of image) (λ (x : Node). x.kind) ∙ sym held.count

    can_be_judged : Judgeable (doc_of image)
    unfolding read_nodes
    can_be_judged =
        judgeable (doc_of image) (omega (arith, size-held, held.few)) (then_accepted (in_order (image_tests node_form image)) (accept (doc_of image)) held.accepted).1

    pub whole-held : Whole (doc_of image) (take (n - 0) c.kind) (take (n - 0) c.vkind) (take (n - 0) c.name) (take (n - 0) c.parent) (take (n - 0) c.begin) (take (n - 0) c.end) (take (n - 0) c.value) (take (n - 0) c.item)
    unfolding doc_of of_nodes
    whole-held =
        let kind = lends (λ (m : Node). m.kind) 0 c.kind u.kind in
        let parent = lends (λ (m : Node). m.parent) 0 c.parent u.parent in
        record {
          tree = record { kind = kind; name = lends (λ (m : Node). m.name) 0 c.name u.name; parent = parent };
          values_held =
              record {
                kind = kind;
                vkind = lends (λ (m : Node). m.vkind) 0 c.vkind u.vkind;
                value = lends (λ (m : Node). m.value) (pos 0) c.value u.value;
              };
          periods =
              record {
                begin = lends (λ (m : Node). m.begin) 0 c.begin u.begin;
                end = lends (λ (m : Node). m.end) 0 c.end u.end;
              };
          numbers = record { kind = kind; parent = parent; item = lends (λ (m : Node). m.item) 0 c.item u.item };
          judgeable = can_be_judged;
        }

-- a column whose first n entries are a document's has n entries
pub front_room : {A : Type 0} {m n : ℕ} {field : ℕ → A} {other : A} (column : List A) → Lends m field other (take (n - 0) column) → m ≡ n → n ≤ length column
front_room {m = m} {n = n} column l e =
    let s : length (take n column) ≡ m = rw (sub-zero n) at l.size in
    omega (arith, s, e, length-take n column)
