-- Writing what was read from an accepted image gives its bytes again: numbers, records, blocks, the whole image. So a document has exactly one image.
use mathlib.Core.Path.{◌≡◌, sym, ap, ◌∙◌}
use mathlib.Core.Logic.{⊎_elim}
use mathlib.Core.List.{List, [], ◌∷◌, ◌++◌}
use Prim.Native.Nat.{ℕ, suc, ◌+◌, ◌-◌, ◌*◌, ◌/◌, ◌%◌, ◌≤◌, ◌<◌, min}
use native.Mathlib.Nat.{zero-add, mul-zero, mul-suc, mul-le-mul_left, mul-add-div, div-eq_of_lt, mul-add-mod_self_left, mod-eq_of_lt}
use native.Mathlib.Omega.{arith}
use borrow.Author.Tests.{lt-ltb, le-ltb}
use lib.ListN.{length, take, drop, length-take, length-drop, take-append-drop}
use lib.Seq.{take_all, take-add, get_or-take, get_or-drop, length-take-le}
use Rattle.meaning.specs.declared.Form.{Form}
use Rattle.meaning.specs.Reading.{Accepted}
use Rattle.meaning.specs.Walk.{listed}
use Rattle.meaning.specs.Bytes.{byte, two, four, signed, pair, quad, bits}
use Rattle.meaning.specs.Order.{in_order}
use Rattle.meaning.specs.Block.{node_form, check, blocks, block_at, counted, record_at, image_tests, records, record_of, joined, padded, sealed, block_of, blocks_for, share, blocks_of}
use Rattle.meaning.specs.Nodes.{node_in, nodes_of, node_bytes, image_of}
use Rattle.meaning.proofs.Basics.{le_or_lt}
use Rattle.meaning.proofs.Walks.{length_listed, listed_same, map_listed}
use Rattle.meaning.proofs.Summed.{check-summed}
use Rattle.meaning.proofs.Sound.{SoundImage}
use Rattle.meaning.proofs.Images.{image-sound}
use Rattle.writer.proofs.Stretches.{Bytes, bytes-part, bytes-listed, stretches, part_listed, zeros-only}

-- two bytes, read as a number and written, are the same two
pub pair-again : (a b : ℕ) → a < 256 → b < 256 → pair (a + 256 * b) ≡ a ∷ b ∷ []
pair-again a b ha hb =
    let p : (a + 256 * b) % 256 ≡ a = omega arith in
    let q : (a + 256 * b) / 256 ≡ b = omega arith in
    rw (p, q)

-- so are four
pub quad-again : (a b c d : ℕ) → a < 256 → b < 256 → c < 256 → d < 256 → quad (a + 256 * b + 65536 * c + 16777216 * d) ≡ a ∷ b ∷ c ∷ d ∷ []
quad-again a b c d ha hb hc hd =
    let n = a + 256 * b + 65536 * c + 16777216 * d in
    let from-b : n / 256 ≡ b + 256 * (c + 256 * d) = omega arith in
    let from-c : n / 65536 ≡ c + 256 * d = omega arith in
    let p : n % 256 ≡ a = omega arith in
    let q : n / 256 % 256 ≡ b = rw from-b (omega arith) in
    let r : n / 65536 % 256 ≡ c = rw from-c (omega arith) in
    let s : n / 16777216 ≡ d = omega arith in
    λ j. p j ∷ q j ∷ r j ∷ s j ∷ []

-- a number of four bytes, read as a signed one, has its own bits
pub bits-again : (x : ℕ) → x < 4294967296 → bits (signed x) ≡ x
unfolding bits signed
bits-again x h =
    ⊎_elim
    (λ l. rw (le-ltb x 2147483648 l) (omega arith))
    (λ l. rw (lt-ltb x 2147483648 l))
    (le_or_lt 2147483648 x)

module _ (s : List ℕ) (h : Bytes s) where
  -- the number at two places of a list, written, is the bytes there
  pub pair-bytes : (at : ℕ) → pair (two s at) ≡ byte s at ∷ byte s (at + 1) ∷ []
  pair-bytes at = pair-again _ _ (h at) (h (at + 1))

  -- so is the number at four places
  pub quad-bytes : (at : ℕ) → quad (four s at) ≡ byte s at ∷ byte s (at + 1) ∷ byte s (at + 2) ∷ byte s (at + 3) ∷ []
  quad-bytes at = quad-again _ _ _ _ (h at) (h (at + 1)) (h (at + 2)) (h (at + 3))

  -- a record of 20 bytes, read and written, is the same 20
  pub node-again : length s ≡ 20 → node_bytes (node_in s) ≡ s
  unfolding node_bytes node_in listed
  node-again e =
      let fits : four s 10 < 4294967296 = omega (arith, h 10, h 11, h 12, h 13) in
      let value : quad (bits (signed (four s 10))) ≡ quad (four s 10) = ap quad (bits-again (four s 10) fits) in
      (λ j. byte s 0 ∷ byte s 1
      ∷ (pair-bytes 2 j ++ (pair-bytes 4 j ++ (pair-bytes 6 j ++ (pair-bytes 8 j
      ++ ((value ∙ quad-bytes 10) j ++ (quad-bytes 14 j ++ pair-bytes 18 j)))))))
      ∙ bytes-listed s 0 20 (omega arith)
      ∙ take_all 20 s (omega arith)

-- a block's 512 bytes
module _ (s : List ℕ) (long : length s ≡ 512) (h : Bytes s) where
  -- what its header says, written, and the bytes of its records after it are its front
  front_again : (form : Form) (b : ℕ) (rs : List (List ℕ)) → four s 0 ≡ b → byte s 6 ≡ form.kind → byte s 7 ≡ 0 → length rs ≡ counted s
      → joined rs ≡ take (form.size * counted s) (drop 8 s) → quad b ++ (pair (length rs) ++ (form.kind ∷ 0 ∷ joined rs)) ≡ take (record_at form (counted s)) s
  unfolding listed
  front_again form b rs number kind none many own =
      (λ j. (ap quad (sym number) ∙ quad-bytes s h 0) j ++ ((ap pair many ∙ pair-bytes s h 4) j ++ (sym kind j ∷ sym none j ∷ own j)))
      ∙ ap (λ (l : List ℕ). l ++ take (form.size * counted s) (drop 8 s)) (bytes-listed s 0 8 (omega arith))
      ∙ sym (take-add 8 (form.size * counted s) s)

  -- a front that only zeros follow, filled up with zeros, is all before the check
  padded-again : (r : ℕ) → r ≤ 508 → ((at : ℕ) → r ≤ at → at < 508 → byte s at ≡ 0) → padded 508 (take r s) ≡ take 508 s
  unfolding padded
  padded-again r few zeros =
      let to-check : r + (508 - r) ≡ 508 = omega arith in
      let rest = zeros-only (take (508 - r) (drop r s)) (508 - r) (simp (length-take, length-drop) (omega arith))
      (λ k l. rw (get_or-take (508 - r) (drop r s) k 0 l, get_or-drop) (zeros (r + k) (omega arith) (omega arith))) in
      rw (length-take-le r s (omega arith), ← rest, ← take-add r (508 - r) s, to-check)

  -- all before the check, with its check after it, is the block
  sealed-again : four s 508 ≡ check (take 508 s) → sealed (take 508 s) ≡ s
  unfolding sealed listed
  sealed-again e =
      ap (λ (l : List ℕ). take 508 s ++ l) (ap quad (sym e) ∙ quad-bytes s h 508 ∙ bytes-listed s 508 4 (omega arith) ∙ take_all 4 (drop 508 s) (simp length-drop (omega arith)))
      ∙ take-append-drop 508 s

-- the bytes of every record of an image
abbrev pub all_records : Form → List ℕ → List (List ℕ)
all_records form image = listed (record_of form image) 0 (records form image)

-- the bytes of the records that a block says it has, the block's bytes s
abbrev pub records_in : Form → List ℕ → List (List ℕ)
records_in form s = listed (λ k. take form.size (drop (record_at form k) s)) 0 (counted s)

-- one after the other they are what follows the header
records-joined : (form : Form) (s : List ℕ) → joined (records_in form s) ≡ take (form.size * counted s) (drop 8 s)
records-joined form s =
    let start : 8 + form.size * 0 ≡ 8 = omega (arith, mul-zero form.size) in
    stretches s 8 form.size 0 (counted s) ∙ rw start

-- an image that is sound block by block, of a form whose records fit a block
module _ (form : Form) (one : 1 ≤ form.each) (room : record_at form form.each ≤ 508) (image : List ℕ) (bytes : Bytes image) (sound : SoundImage form image) where
  -- each block has its 512 bytes
  block_long : (b : ℕ) → b < blocks image → length (block_at image b) ≡ 512
  block_long b h = simp (length-take, length-drop) (omega arith)

  -- the image's record at the full blocks before b and k more is record k of block b
  record_there : (b k : ℕ) → k < form.each → record_of form image (form.each * b + k) ≡ take form.size (drop (record_at form k) (block_at image b))
  unfolding record_of
  record_there b k h =
      let which : (form.each * b + k) / form.each ≡ b = omega (arith, mul-add-div one b k, div-eq_of_lt h) in
      let place : (form.each * b + k) % form.each ≡ k = mul-add-mod_self_left form.each b k ∙ mod-eq_of_lt h in
      rw (which, place)

  -- block b counts as many records as its share has: every block but the last is full
  share-count : (b : ℕ) → b < blocks image → min form.each (records form image - form.each * b) ≡ counted (block_at image b)
  unfolding records
  share-count b h =
      ⊎_elim
      (λ (l : blocks image ≤ suc b). let last : blocks image - 1 ≡ b = omega arith in rw last (omega (arith, (sound.each_block b h).few)))
      (λ l.
      let more : form.each * suc b ≤ form.each * (blocks image - 1) = mul-le-mul_left form.each (omega arith) in
      omega (arith, mul-suc form.each b, (sound.each_block b h).full l))
      (le_or_lt (blocks image) (suc b))

  -- its share of all records is the records in it
  share_again : (b : ℕ) → b < blocks image → share form b (all_records form image) ≡ records_in form (block_at image b)
  unfolding share
  share_again b h =
      part_listed (record_of form image) _ (form.each * b) form.each (records form image) (counted (block_at image b)) (share-count b h)
      (λ k l. record_there b k (omega (arith, (sound.each_block b h).few)))

  -- block b, written with its share, is block b of the image
  pub block_again : (b : ℕ) → b < blocks image → block_of form b (share form b (all_records form image)) ≡ block_at image b
  unfolding block_of
  block_again b h =
      let s = block_at image b in
      let ok = sound.each_block b h in
      let long = block_long b h in
      let below : Bytes s = bytes-part 512 (512 * b) image bytes in
      let fits : form.size * counted s ≤ form.size * form.each = mul-le-mul_left form.size ok.few in
      ap (block_of form b) (share_again b h)
      ∙ ap (λ (l : List ℕ). sealed (padded 508 l)) (front_again s long below form b (records_in form s) ok.number ok.kind ok.form_byte (length_listed _ 0 (counted s)) (records-joined form s))
      ∙ ap sealed (padded-again s long below (record_at form (counted s)) (omega arith) ok.zeros)
      ∙ sealed-again s long below (ok.check ∙ sym (check-summed (take 508 s)))

  -- the records take the blocks that the image has
  blocks-count : blocks_for form (records form image) ≡ blocks image
  unfolding blocks_for records
  blocks-count =
      let n = blocks image in
      let c = counted (block_at image (n - 1)) in
      let last = sound.each_block (n - 1) (omega (arith, sound.some, sound.whole)) in
      let whole : form.each * suc (n - 1) ≡ form.each * (n - 1) + form.each = mul-suc form.each (n - 1) in
      let sum : form.each * (n - 1) + c + (form.each - 1) ≡ form.each * suc (n - 1) + (c - 1) = omega (arith, last.some) in
      let less : c - 1 < form.each = omega (arith, last.some, last.few) in
      rw sum (omega (arith, mul-add-div one (suc (n - 1)) (c - 1), div-eq_of_lt less))

  -- all blocks, written one after the other, are the image
  pub sound-again : blocks_of form (all_records form image) ≡ image
  unfolding blocks_of
  sound-again =
      ap (λ (n : ℕ). joined (listed (λ b. block_of form b (share form b (all_records form image))) 0 n)) (ap (blocks_for form) (length_listed (record_of form image) 0 (records form image)) ∙ blocks-count)
      ∙ ap joined (listed_same _ (λ b. take 512 (drop (0 + 512 * b) image)) 0 (blocks image) (λ b low h. block_again b (omega arith) ∙ rw zero-add))
      ∙ stretches image 0 512 0 (blocks image)
      ∙ take_all (512 * blocks image) image (omega (arith, sound.whole))

-- THE LAW: the records of an image that passes the tests, written, are the image
pub blocks-again : (form : Form) → 1 ≤ form.each → record_at form form.each ≤ 508 → (image : List ℕ) → Bytes image → in_order (image_tests form image) ≡ Accepted
    → blocks_of form (all_records form image) ≡ image
blocks-again form one room image bytes e = sound-again form one room image bytes (image-sound form image one e)

-- a record of bytes below 256 has such bytes
record_bytes : (form : Form) (image : List ℕ) → Bytes image → (i : ℕ) → Bytes (record_of form image i)
unfolding record_of
record_bytes form image bytes i =
    bytes-part form.size (record_at form (i % form.each)) (block_at image (i / form.each)) (bytes-part 512 (512 * (i / form.each)) image bytes)

-- a record of a node image has 20 bytes
node-long : (image : List ℕ) → SoundImage node_form image → (i : ℕ) → i < records node_form image → length (record_of node_form image i) ≡ 20
unfolding record_of records
node-long image sound i h =
    let last = sound.each_block (blocks image - 1) (omega (arith, sound.some, sound.whole)) in
    simp (length-take, length-drop) (omega (arith, last.few, sound.some, sound.whole))

-- THE LAW of a node image: the records read from it, written, are the image ..
pub image-again : (image : List ℕ) → Bytes image → in_order (image_tests node_form image) ≡ Accepted → image_of (nodes_of image) ≡ image
unfolding image_of nodes_of
image-again image bytes e =
    ap (blocks_of node_form)
    (map_listed node_bytes (λ i. node_in (record_of node_form image i)) 0 (records node_form image)
    ∙ listed_same _ (record_of node_form image) 0 (records node_form image)
    (λ i low h. node-again (record_of node_form image i) (record_bytes node_form image bytes i) (node-long image (image-sound node_form image (omega arith) e) i (omega arith))))
    ∙ blocks-again node_form (omega arith) (omega arith) image bytes e

-- .. so no document has two images
pub one-image : (s t : List ℕ) → Bytes s → Bytes t → in_order (image_tests node_form s) ≡ Accepted → in_order (image_tests node_form t) ≡ Accepted → nodes_of s ≡ nodes_of t → s ≡ t
one-image s t hs ht es et e = sym (image-again s hs es) ∙ ap image_of e ∙ image-again t ht et
