-- THE LAW OF WRITING, of node records: the image of records is well formed, has their length, and is read as the same records and the same document.
use mathlib.Core.Path.{◌≡◌, refl, ap, ◌∙◌}
use mathlib.Core.List.{List, [], ◌∷◌, map}
use Prim.Native.Nat.{ℕ, zero, suc, ◌*◌, ◌-◌, ◌≤◌, ◌<◌}
use native.Mathlib.Nat.{zero-add}
use native.Mathlib.Omega.{arith}
use borrow.Author.Tests.{lt-ltb, le-ltb}
use lib.IntN.{ℤ, pos, negsuc}
use lib.Signed.{mag}
use lib.ListN.{length, get_or, length-map}
use lib.Seq.{ext_get_or}
use Rattle.meaning.specs.declared.Node.{Node}
use Rattle.meaning.specs.Reading.{Accepted}
use Rattle.meaning.specs.Bytes.{signed, bits}
use Rattle.meaning.specs.Order.{in_order}
use Rattle.meaning.specs.Block.{node_form, limit, image_tests, blocks_for, records, record_of}
use Rattle.meaning.specs.Document.{of_nodes}
use Rattle.meaning.specs.Nodes.{node_in, nodes_of, doc_of, node_bytes, image_of, accept, read_nodes}
use Rattle.meaning.proofs.Walks.{length_listed, get_d_listed}
use Rattle.writer.proofs.Joins.{EachLong}
use Rattle.writer.proofs.WrittenBlock.{node-room, pair-back, quad-back}
use Rattle.writer.proofs.ReadBack.{length_blocks, blocks-good, records-back, record_back}

-- a signed number of 32 bits
abbrev pub Fits32 : ℤ → Type 0
Fits32 z = mag z < 2147483648

-- the values of all records are such numbers
abbrev pub ValuesFit : List Node → Type 0
ValuesFit ns = (i : ℕ) → i < length ns → Fits32 (get_or (map (λ (n : Node). n.value) ns) i (pos 0))

-- its bits are read back as the number
pub signed_back : (z : ℤ) → Fits32 z → signed (bits z) ≡ z
unfolding signed bits
signed_back (pos x) h = rw (lt-ltb x 2147483648 h)
signed_back (negsuc x) h =
    let back : 4294967295 - (4294967295 - x) ≡ x = omega arith in
    rw (le-ltb (4294967295 - x) 2147483648 (omega arith), back)

-- a record's bytes are read back as the record
pub node-back : (n : Node) → Fits32 n.value → node_in (node_bytes n) ≡ n
unfolding node_in node_bytes
node-back n h =
    λ j. record {
      kind = n.kind;
      vkind = n.vkind;
      name = pair-back n.name j;
      parent = pair-back n.parent j;
      begin = pair-back n.begin j;
      end = pair-back n.end j;
      value = (ap signed (quad-back (bits n.value)) ∙ signed_back n.value h) j;
      item = quad-back n.item j;
      spare = pair-back n.spare j;
    }

-- what stands at a place of a list that a function was applied to, whatever is taken past the ends
pub get_d_mapped : {A B : Type 0} (f : A → B) (l : List A) (i : ℕ) (a : A) (b : B) → i < length l → get_or (map f l) i b ≡ f (get_or l i a)
get_d_mapped f [] i a b h = absurd (omega arith)
get_d_mapped f (x ∷ l) zero a b h = refl
get_d_mapped f (x ∷ l) (suc i) a b h = get_d_mapped f l i a b (omega arith)

module _ (ns : List Node) where
  -- the bytes of each record are 20
  pub bytes-long : EachLong node_form.size (map node_bytes ns)
  unfolding node_bytes
  bytes-long i h = ap length (get_d_mapped node_bytes ns i (node_in []) [] (rw length-map at h))

  -- the image has 512 bytes for each block that the records take
  pub image-length : length (image_of ns) ≡ 512 * blocks_for node_form (length ns)
  unfolding image_of
  image-length = rw length-map at (length_blocks node_form node-room (map node_bytes ns) bytes-long)

  -- 1 to 4: it passes the tests of its form
  pub image-good : 1 ≤ length ns → length ns ≤ limit → in_order (image_tests node_form (image_of ns)) ≡ Accepted
  unfolding image_of
  image-good one few = blocks-good node_form node-room (map node_bytes ns) bytes-long (rw length-map one) (rw length-map few)

  -- it has as many records ..
  pub image-count : 1 ≤ length ns → records node_form (image_of ns) ≡ length ns
  unfolding image_of
  image-count one = records-back node_form node-room (map node_bytes ns) bytes-long (rw length-map one) ∙ length-map ns node_bytes

  -- .. and each is the one that was written
  image-node : ValuesFit ns → (i : ℕ) → i < length ns → node_in (record_of node_form (image_of ns) i) ≡ get_or ns i (node_in [])
  unfolding image_of
  image-node fit i h =
      let n = get_or ns i (node_in []) in
      let value = get_d_mapped (λ (m : Node). m.value) ns i (node_in []) (pos 0) h in
      ap node_in (record_back node_form node-room (map node_bytes ns) bytes-long i (rw length-map h) ∙ get_d_mapped node_bytes ns i (node_in []) [] h)
      ∙ node-back n (rw value at (fit i h))

  -- the image is read as the records ..
  pub image-records : 1 ≤ length ns → ValuesFit ns → nodes_of (image_of ns) ≡ ns
  unfolding nodes_of
  image-records one fit =
      let count = length_listed (λ i. node_in (record_of node_form (image_of ns) i)) 0 (records node_form (image_of ns)) ∙ image-count one in
      ext_get_or (node_in []) (nodes_of (image_of ns)) ns count
      (λ i h. let here : i < length ns = rw count at h in get_d_listed _ 0 _ i _ (omega (arith, image-count one)) ∙ rw zero-add (image-node fit i here))

  -- .. and accepted or refused as their document is
  pub image-read : 1 ≤ length ns → length ns ≤ limit → ValuesFit ns → read_nodes (image_of ns) ≡ accept (of_nodes ns)
  unfolding read_nodes doc_of
  image-read one few fit = rw (image-good one few, image-records one fit)
