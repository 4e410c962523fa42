-- THE LAW OF WRITING: an image that records are written to is well formed, and reading it gives the same records.
use mathlib.Core.Path.{◌≡◌, ap, ◌∙◌}
use mathlib.Core.List.{List, []}
use Prim.Native.Nat.{ℕ, suc, ◌+◌, ◌*◌, ◌-◌, ◌/◌, ◌%◌, ◌≤◌, ◌<◌}
use native.Mathlib.Nat.{zero-add, mul-zero, mul-suc, div-add-mod, mod-lt}
use native.Mathlib.Omega.{arith}
use lib.ListN.{length, get_or, take}
use Rattle.meaning.specs.declared.Form.{Form}
use Rattle.meaning.specs.Reading.{Accepted}
use Rattle.meaning.specs.Walk.{listed}
use Rattle.meaning.specs.Order.{in_order}
use Rattle.meaning.specs.Block.{blocks, block_at, counted, image_tests, records, record_of, block_of, blocks_for, share, blocks_of}
use Rattle.meaning.proofs.Walks.{length_listed, get_d_listed}
use Rattle.meaning.proofs.Summed.{check-summed}
use Rattle.meaning.proofs.Sound.{SoundBlock}
use Rattle.meaning.proofs.Images.{sound-image}
use Rattle.writer.proofs.Joins.{EachLong, length_joined, stretch}
use Rattle.writer.proofs.WrittenBlock.{Room, length_block, block_check, block_number, block_count, block_kind, block_form_byte, block_zeros, block_record}
use Rattle.writer.proofs.Shares.{block_taken, all_held, block_needed, blocks-few, record_held, length_share, long_share, share-at}

-- block b of the records
abbrev pub block_with : Form → List (List ℕ) → ℕ → List ℕ
block_with form rs b = block_of form b (share form b rs)

module _ (form : Form) (room : Room form) (rs : List (List ℕ)) (long : EachLong form.size rs) where
  -- a block's records are as long as they all are ..
  share-long : (b : ℕ) → EachLong form.size (share form b rs)
  share-long b = long_share form rs b form.size long

  -- .. and no more than there is room for
  share-few : (b : ℕ) → length (share form b rs) ≤ form.each
  share-few b = omega (arith, length_share form rs b)

  -- every block has 512 bytes, ..
  pub length_with : (b : ℕ) → length (block_with form rs b) ≡ 512
  length_with b = length_block form b _ room (share-long b) (share-few b)

  -- .. so each of those listed
  blocks-long : EachLong 512 (listed (block_with form rs) 0 (blocks_for form (length rs)))
  blocks-long b h =
      ap length (get_d_listed (block_with form rs) 0 _ b [] (rw length_listed at h)) ∙ length_with (0 + b)

  -- the image has 512 for each block that the records take
  pub length_blocks : length (blocks_of form rs) ≡ 512 * blocks_for form (length rs)
  unfolding blocks_of
  length_blocks = length_joined 512 _ blocks-long ∙ ap (λ (n : ℕ). 512 * n) (length_listed (block_with form rs) 0 _)

  -- so it has as many blocks
  pub blocks-taken : blocks (blocks_of form rs) ≡ blocks_for form (length rs)
  blocks-taken = omega (arith, length_blocks)

  -- one or more
  blocks-some : 1 ≤ length rs → 1 ≤ blocks_for form (length rs)
  blocks-some one = block_needed form room.some (length rs) 0 (omega (arith, mul-zero form.each))

  -- block b is the one that was written
  pub block_back : (b : ℕ) → b < blocks_for form (length rs) → block_at (blocks_of form rs) b ≡ block_with form rs b
  unfolding blocks_of
  block_back b h = stretch 512 _ b blocks-long (rw length_listed h) ∙ get_d_listed (block_with form rs) 0 _ b [] h ∙ ap (block_with form rs) (zero-add b)

  -- it says how many records it was given
  count-back : (b : ℕ) → b < blocks_for form (length rs) → counted (block_at (blocks_of form rs) b) ≡ length (share form b rs)
  count-back b h = rw (block_back b h) (block_count form b (share form b rs))

  -- 2, 3, 4: it is sound
  block_sound : (b : ℕ) → b < blocks_for form (length rs) → SoundBlock form (blocks_of form rs) b
  block_sound b h =
      let s = share form b rs in
      let same = block_back b h in
      let count = count-back b h ∙ length_share form rs b in
      record {
        check = rw same (block_check form b s room (share-long b) (share-few b) ∙ check-summed (take 508 (block_with form rs b)));
        number = rw same (block_number form b s);
        kind = rw same (block_kind form b s);
        form_byte = rw same (block_form_byte form b s);
        some = omega (arith, room.some, block_taken form room.some (length rs) b h);
        few = omega arith;
        full = λ l. omega (arith, block_taken form room.some (length rs) (suc b) (rw blocks-taken at l), mul-suc form.each b);
        zeros = rw (count-back b h, same) (block_zeros form b s room (share-long b) (share-few b));
      }

  -- 1 to 4: the image passes the tests
  pub blocks-good : 1 ≤ length rs → length rs ≤ form.each * form.most → in_order (image_tests form (blocks_of form rs)) ≡ Accepted
  blocks-good one fits =
      sound-image form (blocks_of form rs)
      (record {
        some = omega (arith, length_blocks, blocks-some one);
        whole = omega (arith, length_blocks);
        few = rw blocks-taken (blocks-few form room.some (length rs) form.most fits);
        each_block = λ b h. block_sound b (rw blocks-taken at h);
      })

  -- it has as many records ..
  pub records-back : 1 ≤ length rs → records form (blocks_of form rs) ≡ length rs
  unfolding records
  records-back one =
      let n = blocks_for form (length rs) in
      let some = blocks-some one in
      let next : suc (n - 1) ≡ n = omega arith in
      let held : length rs ≤ form.each * suc (n - 1) = rw next (all_held form room.some (length rs)) in
      rw (blocks-taken, count-back (n - 1) (omega arith), length_share)
      (omega (arith, mul-suc form.each (n - 1), block_taken form room.some (length rs) (n - 1) (omega arith)))

  -- .. and each is the one that was written
  pub record_back : (i : ℕ) → i < length rs → record_of form (blocks_of form rs) i ≡ get_or rs i []
  unfolding record_of
  record_back i h =
      let b = i / form.each in
      let k = i % form.each in
      let place : form.each * b + k ≡ i = div-add-mod i form.each in
      let near : k < form.each = mod-lt i room.some in
      rw (block_back b (record_held form room.some (length rs) i h))
      (block_record form b (share form b rs) room (share-long b) (share-few b) k (omega (arith, length_share form rs b))
      ∙ share-at form rs b k near
      ∙ ap (λ (j : ℕ). get_or rs j []) place)
