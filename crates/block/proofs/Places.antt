-- How many records an image has whose blocks were read, and where in it a record lies.
use Rattle.std.proofs.Common.{◌≡◌, ℕ, ◌+◌, ◌-◌, ◌*◌, ◌/◌, ◌%◌, ◌<◌, ◌≤◌, List, length, take, drop, ap, mod-lt, div-lt_iff_lt-mul, mul-le-mul_left, arith, length-drop, length-take}
use Rattle.meaning.specs.declared.Form.{Form}
use Rattle.meaning.specs.Block.{blocks, block_at, counted, record_at, records, record_of}
use Rattle.meaning.proofs.Sound.{SoundImage}
use Rattle.meaning.proofs.Images.{image-sound}
use Rattle.block.specs.Fair.{Read, Counted, Inside, Part}
use Rattle.block.proofs.Answers.{cut, cut_block}

-- an image that was read has one block or more, all whole and not too many
pub record Blocks (form : Form) (image : List ℕ) : Type 0 where
  pub some : 1 ≤ blocks image
  pub few : blocks image ≤ form.most
  pub whole : 512 * blocks image ≡ length image

one_more : (e b : ℕ) → 1 ≤ b → e * (b - 1) + e ≡ e * b
one_more e b h = let s : b - 1 + 1 ≡ b = omega arith in omega (arith, ap (λ (x : ℕ). e * x) s)

module _ {form : Form} {image : List ℕ} (r : Read form image) where
  sound : SoundImage form image
  sound = image-sound form image r.fair.some r.accepted

  pub its_blocks : Blocks form image
  its_blocks =
      let s = sound in
      record { some = omega arith; few = s.few; whole = omega arith }

  -- the full blocks before the last one, and what the last one says
  pub count-all : {p n : ℕ} → p ≡ form.each * (blocks image - 1) → n ≡ counted (cut image (blocks image - 1)) → Counted form image (p + n)
  unfolding records
  count-all {n = n} ep en =
      let s = sound in
      let g = its_blocks in
      let last = s.each_block (blocks image - 1) (omega arith) in
      let e : n ≡ counted (block_at image (blocks image - 1)) = rw (cut_block image (blocks image - 1)) at en in
      let all : form.each * (blocks image - 1) + form.each ≡ form.each * blocks image = one_more form.each (blocks image) g.some in
      record {
        count = rw (ep, e);
        some = omega (arith, last.some);
        inside = omega (arith, last.few);
        few = omega (arith, last.few, mul-le-mul_left form.each g.few);
      }

module _ {form : Form} {image : List ℕ} {i : ℕ} (h : Inside form image i) where
  -- its place in its block
  pub in_block : i % form.each < form.each
  in_block = mod-lt i h.fair.some

  -- its block is one of the image's
  pub block_here : 512 * (i / form.each) + 512 ≤ length image
  block_here =
      let b : i / form.each < blocks image = (div-lt_iff_lt-mul h.fair.some).1 (omega (arith, h.inside)) in
      omega arith

-- record k of the block that starts at a place, from its own place to the next one's, is record i of the image
module _ {form : Form} {image : List ℕ} {at k from to : ℕ} (here : at + 512 ≤ length image) (ef : from ≡ record_at form k) (et : to ≡ record_at form (k + 1)) (fits : to ≤ 508) where
  pub part_of : (i : ℕ) → at ≡ 512 * (i / form.each) → k ≡ i % form.each → Part form image i (take (to - from) (drop from (take (at + 512 - at) (drop at image))))
  unfolding record_of
  part_of i ea ek =
      let width : at + 512 - at ≡ 512 = omega arith in
      let size : to - from ≡ form.size = omega (arith, ef, et) in
      rw (width, size) (record { bytes = rw (ef, ek, ea); size = simp (length-take, length-drop) (omega (arith, here, ef, et, fits)) })
