-- The ways out of reading and of unpacking a node image. Over plain variables: what each call gave, with what it ensures.
use mathlib.Core.Path.{◌≡◌, sym, ap, ◌∙◌}
use mathlib.Core.Bool.{Bool, true, false, not}
use mathlib.Core.List.{List, ◌++◌, map}
use Prim.Native.Nat.{ℕ, ◌*◌, ◌≤◌}
use native.Mathlib.Omega.{arith}
use borrow.Author.Tests.{not-true, not-false}
use lib.ListN.{length, drop}
use Rattle.meaning.specs.declared.Node.{Node}
use Rattle.meaning.specs.Reading.{Reading, Accepted, Refused}
use Rattle.std.specs.Prelude.{Ok}
use Rattle.meaning.specs.Order.{and_then, in_order}
use Rattle.meaning.specs.Block.{node_form, image_tests, records, record_of, blocks}
use Rattle.meaning.specs.Nodes.{node_in, nodes_of, doc_of, accept, read_nodes}
use Rattle.meaning.specs.Answer.{tell_reading}
use Rattle.meaning.proofs.Orders.{then_accepted}
use Rattle.meaning.proofs.Unique.{reading_unique}
use Rattle.meaning.proofs.Says.{says}
use Rattle.meaning.proofs.Walks.{length_listed}
use Rattle.nodes.specs.Filled.{filled, Roomy}
use Rattle.meaning.specs.Lent.{roomy}
use Rattle.nodes.specs.Loading.{tell_loaded, loading}
use Rattle.nodes.proofs.Unpacked.{field_listed}

module _ (image : List ℕ) {x : Reading} (ex : x ≡ in_order (image_tests node_form image)) where
  -- a block refuses, or the document decides
  pub by-block : {k p : ℕ} → x ≡ Refused k p → x ≡ read_nodes image
  unfolding read_nodes
  by-block r = r ∙ sym (ap (λ y. and_then y (accept (doc_of image))) (sym ex ∙ r))

  pub by-document : x ≡ Accepted → {y : Reading} → y ≡ accept (doc_of image) → y ≡ read_nodes image
  unfolding read_nodes
  by-document a ey = ey ∙ sym (ap (λ z. and_then z (accept (doc_of image))) (sym ex ∙ a))

-- the blocks of an accepted image are good
pub blocks-good : (image : List ℕ) → read_nodes image ≡ Accepted → in_order (image_tests node_form image) ≡ Accepted
unfolding read_nodes
blocks-good image e = (then_accepted (in_order (image_tests node_form image)) (accept (doc_of image)) e).0

-- as many as there are records
pub counted : (image : List ℕ) (n : ℕ) → n ≡ records node_form image → length (nodes_of image) ≡ n
unfolding nodes_of
counted image n e = length_listed (λ i. node_in (record_of node_form image i)) 0 (records node_form image) ∙ sym e

module _ (image : List ℕ) {x : Reading} (told : tell_reading x ≡ tell_reading (read_nodes image)) where
  ex : x ≡ read_nodes image
  ex = reading_unique x (read_nodes image) told

  pub read-good : x ≡ Accepted → in_order (image_tests node_form image) ≡ Accepted
  read-good a = blocks-good image (sym ex ∙ a)

  module _ (a b c d e f g h : ℕ) where
    -- refused as the image is
    pub as_image : {k p : ℕ} → x ≡ Refused k p → tell_loaded (Refused k p) ≡ tell_loaded (loading image a b c d e f g h)
    unfolding loading
    as_image r = rw (sym ex ∙ r)

    module _ (ax : x ≡ Accepted) (n : ℕ) (en : n ≡ records node_form image) {w : Bool} (ew : w ≡ roomy n a b c d e f g h) where
      -- refused with 12, or unpacked
      pub no_room : not w ≡ true → tell_loaded (Refused 12 0) ≡ tell_loaded (loading image a b c d e f g h)
      unfolding loading
      no_room t = rw (sym ex ∙ ax, counted image n en, sym ew ∙ not-true w t)

      pub with_room : not w ≡ false → tell_loaded (Ok n) ≡ tell_loaded (loading image a b c d e f g h)
      unfolding loading
      with_room t = rw (sym ex ∙ ax, counted image n en, sym ew ∙ not-false w t)

      -- and there is room for all eight
      pub room_for : n ≤ 25 * blocks image → not w ≡ false → Roomy image n a b c d e f g h
      room_for inside t =
          let p = simp says at (sym ew ∙ not-false w t) in
          record { inside = inside; kind = omega arith; vkind = omega arith; name = omega arith; parent = omega arith; begin = omega arith; end = omega arith; value = omega arith; item = omega arith }

-- a column filled with a field holds it for every record, and past them what it held
pub field_column : (image : List ℕ) (n : ℕ) → n ≡ records node_form image → {A : Type 0} (field : Node → A) (old out : List A)
    → out ≡ filled (λ i. field (node_in (record_of node_form image i))) n old → out ≡ map field (nodes_of image) ++ drop n old
unfolding filled
field_column image n en field old out e = e ∙ ap (λ l. l ++ drop n old) (sym (field_listed image n en field))
