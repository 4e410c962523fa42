-- Columns that hold the records of an accepted image: they are not refused, and their image is the one that was read.
use mathlib.Core.Path.{◌≡◌, sym, ap, ◌∙◌}
use mathlib.Core.List.{List, [], map}
use Prim.Native.Nat.{ℕ, ◌≤◌, ◌<◌}
use native.Mathlib.Nat.{zero-add}
use native.Mathlib.Omega.{arith}
use lib.IntN.{pos}
use lib.ListN.{length, get_or, take, length-map, length-take}
use lib.Seq.{ext_get_or, get_or-take}
use Rattle.meaning.specs.declared.Node.{Node}
use Rattle.meaning.specs.Reading.{Accepted}
use Rattle.meaning.specs.Order.{in_order}
use Rattle.meaning.specs.Block.{node_form, limit, image_tests}
use Rattle.meaning.specs.Document.{of_nodes}
use Rattle.meaning.specs.Nodes.{node_in, nodes_of, doc_of, image_of, accept, read_nodes}
use Rattle.meaning.specs.Lent.{Lent, node_at, nodes_lent, read_lent}
use Rattle.meaning.proofs.Says.{says}
use Rattle.meaning.proofs.Walks.{get_d_listed}
use Rattle.meaning.proofs.Sound.{SoundNodes}
use Rattle.meaning.proofs.Rooms.{size-most}
use Rattle.meaning.proofs.Orders.{then_accepted}
use Rattle.meaning.proofs.Theorems.{nodes_accepted}
use Rattle.writer.specs.Filling.{Reaches}
use Rattle.writer.proofs.Stretches.{Bytes}
use Rattle.writer.proofs.Rewritten.{image-again}
use Rattle.writer.proofs.WrittenNodes.{get_d_mapped}
use Rattle.writer.proofs.Writes.{lent-count}
use Rattle.writer.proofs.WriteLines.{long_enough_lem}

-- the first n entries of the columns are the fields of the records of an image
pub record Unpacked (image : List ℕ) (n : ℕ) (c : Lent) : Type 0 where
  pub count : n ≡ length (nodes_of image)
  pub kind : take n c.kind ≡ map (λ (m : Node). m.kind) (nodes_of image)
  pub vkind : take n c.vkind ≡ map (λ (m : Node). m.vkind) (nodes_of image)
  pub name : take n c.name ≡ map (λ (m : Node). m.name) (nodes_of image)
  pub parent : take n c.parent ≡ map (λ (m : Node). m.parent) (nodes_of image)
  pub begin : take n c.begin ≡ map (λ (m : Node). m.begin) (nodes_of image)
  pub end : take n c.end ≡ map (λ (m : Node). m.end) (nodes_of image)
  pub value : take n c.value ≡ map (λ (m : Node). m.value) (nodes_of image)
  pub item : take n c.item ≡ map (λ (m : Node). m.item) (nodes_of image)

module _ (image : List ℕ) (n : ℕ) (c : Lent) (u : Unpacked image n c) where
  -- record i of the image
  abbrev read : ℕ → Node
  read i = get_or (nodes_of image) i (node_in [])

  -- a column has at least as many entries ..
  column_long : {A : Type 0} (field : Node → A) (s : List A) → take n s ≡ map field (nodes_of image) → n ≤ length s
  column_long field s e = omega (arith, u.count, length-take n s, ap length e, length-map (nodes_of image) field)

  -- .. and its entry i is the field of record i
  column_at : {A : Type 0} (field : Node → A) (other : A) (s : List A) → take n s ≡ map field (nodes_of image) → (i : ℕ) → i < n → get_or s i other ≡ field (read i)
  column_at {A} field other s e i h =
      sym (get_or-take n s i other h) ∙ ap (λ (l : List A). get_or l i other) e ∙ get_d_mapped field (nodes_of image) i (node_in []) other (omega (arith, u.count))

  pub unpacked-long : Reaches n c
  unpacked-long =
      record {
        kind = column_long (λ (m : Node). m.kind) c.kind u.kind;
        vkind = column_long (λ (m : Node). m.vkind) c.vkind u.vkind;
        name = column_long (λ (m : Node). m.name) c.name u.name;
        parent = column_long (λ (m : Node). m.parent) c.parent u.parent;
        begin = column_long (λ (m : Node). m.begin) c.begin u.begin;
        end = column_long (λ (m : Node). m.end) c.end u.end;
        value = column_long (λ (m : Node). m.value) c.value u.value;
        item = column_long (λ (m : Node). m.item) c.item u.item;
      }

  -- record i of the columns is record i of the image, whose spare bytes are 0
  unpacked-node : (i : ℕ) → i < n → (read i).spare ≡ 0 → node_at c i ≡ read i
  unpacked-node i h spare =
      let kind = column_at (λ (m : Node). m.kind) 0 c.kind u.kind i h in
      let vkind = column_at (λ (m : Node). m.vkind) 0 c.vkind u.vkind i h in
      let name = column_at (λ (m : Node). m.name) 0 c.name u.name i h in
      let parent = column_at (λ (m : Node). m.parent) 0 c.parent u.parent i h in
      let begin = column_at (λ (m : Node). m.begin) 0 c.begin u.begin i h in
      let end = column_at (λ (m : Node). m.end) 0 c.end u.end i h in
      let value = column_at (λ (m : Node). m.value) (pos 0) c.value u.value i h in
      let item = column_at (λ (m : Node). m.item) 0 c.item u.item i h in
      λ j. record { kind = kind j; vkind = vkind j; name = name j; parent = parent j; begin = begin j; end = end j; value = value j; item = item j; spare = sym spare j }

  module _ (e : read_nodes image ≡ Accepted) where
    sound : SoundNodes image
    sound = (nodes_accepted image).0 e

    no_spare : (i : ℕ) → i < n → (read i).spare ≡ 0
    unfolding doc_of of_nodes
    no_spare i h =
        sym (get_d_mapped (λ (m : Node). m.spare) (nodes_of image) i (node_in []) 0 (omega (arith, u.count)))
        ∙ sound.document.records.spare i (omega (arith, u.count, length-map (nodes_of image) (λ (m : Node). m.kind)))

    size : (doc_of image).size ≡ n
    unfolding doc_of of_nodes
    size = length-map (nodes_of image) (λ (m : Node). m.kind) ∙ sym u.count

    -- so the records are the same ..
    pub unpacked-nodes : nodes_lent n c ≡ nodes_of image
    unfolding nodes_lent
    unpacked-nodes =
        ext_get_or (node_in []) (nodes_lent n c) (nodes_of image) (lent-count n c ∙ u.count)
        (λ i h. let l : i < n = rw (lent-count n c) at h in get_d_listed (node_at c) 0 n i (node_in []) l ∙ rw zero-add (unpacked-node i l (no_spare i l)))

    -- .. they are not refused ..
    pub unpacked-accepted : read_lent n c ≡ Accepted
    unfolding read_lent read_nodes doc_of
    unpacked-accepted =
        let some : 1 ≤ n = omega (arith, size, sound.document.rooted.some.1.here) in
        let few : n ≤ limit = omega (arith, size, size-most image sound) in
        let document = (then_accepted (in_order (image_tests node_form image)) (accept (doc_of image)) e).1 in
        rw (unpacked-nodes) (simp says ((some, few), (simp says at ((long_enough_lem n c).1 unpacked-long), document)))

    -- .. and their image is the one that was read
    pub unpacked-again : Bytes image → image_of (nodes_lent n c) ≡ image
    unfolding read_nodes
    unpacked-again bytes = ap image_of unpacked-nodes ∙ image-again image bytes (then_accepted (in_order (image_tests node_form image)) (accept (doc_of image)) e).0
