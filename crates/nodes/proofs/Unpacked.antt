-- Columns filled from an image hold its document: field by field over any column, then all nine together.
use mathlib.Core.Path.{◌≡◌, sym, ap, ◌∙◌}
use mathlib.Core.List.{List, map}
use Prim.Native.Nat.{ℕ}
use lib.IntN.{ℤ}
use lib.ListN.{take}
use lib.Seq.{take_at}
use Rattle.meaning.specs.declared.Node.{Node}
use Rattle.meaning.specs.Walk.{listed}
use Rattle.meaning.specs.Bytes.{byte, two, four, signed}
use Rattle.meaning.specs.Block.{node_form, records, record_of}
use Rattle.meaning.specs.Document.{columns, of_nodes}
use Rattle.meaning.specs.Nodes.{node_in, nodes_of, doc_of}
use Rattle.meaning.proofs.Walks.{length_listed, map_listed}
use Rattle.nodes.specs.Filled.{filled}

module _ (image : List ℕ) (n : ℕ) (en : n ≡ records node_form image) where
  -- record i of the image
  abbrev at : ℕ → Node
  at i = node_in (record_of node_form image i)

  -- one field of every record
  pub field_listed : {A : Type 0} (field : Node → A) → map field (nodes_of image) ≡ listed (λ i. field (at i)) 0 n
  unfolding nodes_of
  field_listed field = map_listed field at 0 (records node_form image) ∙ ap (listed (λ i. field (at i)) 0) (sym en)

  -- a column filled with it, up to the count
  pub front_field : {A : Type 0} (field : Node → A) (old out : List A) → out ≡ filled (λ i. field (at i)) n old → take n out ≡ map field (nodes_of image)
  unfolding filled
  front_field field old out e = ap (take n) e ∙ take_at (listed (λ i. field (at i)) 0 n) _ n (length_listed (λ i. field (at i)) 0 n) ∙ sym (field_listed field)

  -- all nine columns
  module _ (k₀ vk₀ nm₀ p₀ b₀ e₀ : List ℕ) (v₀ : List ℤ) (it₀ sp₀ : List ℕ) {k vk nm p b e : List ℕ} {v : List ℤ} {it sp : List ℕ}
      (hk : k ≡ filled (λ i. byte (record_of node_form image i) 0) n k₀)
      (hv : vk ≡ filled (λ i. byte (record_of node_form image i) 1) n vk₀)
      (hn : nm ≡ filled (λ i. two (record_of node_form image i) 2) n nm₀)
      (hp : p ≡ filled (λ i. two (record_of node_form image i) 4) n p₀)
      (hb : b ≡ filled (λ i. two (record_of node_form image i) 6) n b₀)
      (he : e ≡ filled (λ i. two (record_of node_form image i) 8) n e₀)
      (hz : v ≡ filled (λ i. signed (four (record_of node_form image i) 10)) n v₀)
      (hi : it ≡ filled (λ i. four (record_of node_form image i) 14) n it₀)
      (hs : sp ≡ filled (λ i. two (record_of node_form image i) 18) n sp₀) where
    pub image-document : columns (take n k) (take n vk) (take n nm) (take n p) (take n b) (take n e) (take n v) (take n it) (take n sp) ≡ doc_of image
    unfolding doc_of of_nodes node_in
    image-document =
        λ j. columns
        (front_field (λ (x : Node). x.kind) k₀ k hk j)
        (front_field (λ (x : Node). x.vkind) vk₀ vk hv j)
        (front_field (λ (x : Node). x.name) nm₀ nm hn j)
        (front_field (λ (x : Node). x.parent) p₀ p hp j)
        (front_field (λ (x : Node). x.begin) b₀ b hb j)
        (front_field (λ (x : Node). x.end) e₀ e he j)
        (front_field (λ (x : Node). x.value) v₀ v hz j)
        (front_field (λ (x : Node). x.item) it₀ it hi j)
        (front_field (λ (x : Node). x.spare) sp₀ sp hs j)
