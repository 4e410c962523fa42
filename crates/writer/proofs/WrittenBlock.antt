-- A block that is written: its length, its check, its header, its zeros, and each of its records where it is read.
use mathlib.Core.Path.{◌≡◌, refl, ap, ◌∙◌}
use mathlib.Core.List.{List, [], ◌∷◌, ◌++◌, append_assoc}
use Prim.Native.Nat.{ℕ, ◌+◌, ◌*◌, ◌-◌, ◌≤◌, ◌<◌}
use native.Mathlib.Nat.{mul-le-mul_left}
use native.Mathlib.Omega.{arith}
use lib.ListN.{length, get_or, take, drop, replicate, length-append, length-replicate, get_or-replicate, get_or-append}
use lib.Seq.{take_at, drop-append-add, get_or-append-add}
use Rattle.meaning.specs.declared.Form.{Form}
use Rattle.meaning.specs.Bytes.{byte, two, four, pair, quad}
use Rattle.meaning.specs.Block.{node_form, rule_form, check, counted, record_at, joined, padded, sealed, block_of}
use Rattle.writer.proofs.Joins.{EachLong, length_joined, stretch_before}

-- a full block holds a record or more, and has room for them
pub record Room (form : Form) : Type 0 where
  pub some : 1 ≤ form.each
  pub fits : 8 + form.size * form.each ≤ 508

-- node images: 25 records of 20 bytes
pub node-room : Room node_form
node-room = record { some = omega arith; fits = omega arith }

-- rule images: 10 records of 50 bytes
pub rule_room : Room rule_form
rule_room = record { some = omega arith; fits = omega arith }

-- a number written to two bytes is read back
pub pair-back : (x : ℕ) → two (pair x) 0 ≡ x
pair-back x = omega arith

-- .. and one written to four
pub quad-back : (x : ℕ) → four (quad x) 0 ≡ x
quad-back x = omega arith

-- a byte past the first m
byte-after : (s t : List ℕ) (m n : ℕ) → length s ≡ m → byte (s ++ t) (m + n) ≡ byte t n
byte-after s t m n e = rw (← e) (get_or-append-add s t n 0)

-- what is filled up is as long as it should be
pub length_padded : (n : ℕ) (s : List ℕ) → length s ≤ n → length (padded n s) ≡ n
unfolding padded
length_padded n s h = simp (length-append, length-replicate) (omega arith)

-- .. with zeros
padded-zero : (n : ℕ) (s : List ℕ) (at : ℕ) → length s ≤ at → at < n → byte (padded n s) at ≡ 0
unfolding padded
padded-zero n s at h l =
    let place : length s + (at - length s) ≡ at = omega arith in
    rw place at (get_or-append-add s (replicate (n - length s) 0) (at - length s) 0) ∙ get_or-replicate (n - length s) (at - length s) 0 0 (omega arith)

module _ (s : List ℕ) (len : length s ≡ 508) where
  -- the check is that of the bytes before it
  sealed-check : four (sealed s) 508 ≡ check (take 508 (sealed s))
  unfolding sealed
  sealed-check =
      let q = quad (check s) in
      rw (byte-after s q 508 0 len, byte-after s q 508 1 len, byte-after s q 508 2 len, byte-after s q 508 3 len, take_at s q 508 len) (quad-back (check s))

  -- and it has four bytes
  length_sealed : length (sealed s) ≡ 512
  unfolding sealed
  length_sealed = rw length-append (omega arith)

  -- the bytes before it stay
  sealed-byte : (at : ℕ) → at < 508 → byte (sealed s) at ≡ byte s at
  unfolding sealed
  sealed-byte at h = get_or-append s (quad (check s)) 0 at (omega arith)

module _ (form : Form) (b : ℕ) (rs : List (List ℕ)) where
  -- the first eight bytes
  abbrev header : List ℕ
  header = quad b ++ (pair (length rs) ++ (form.kind ∷ 0 ∷ []))

  -- the header and the records
  abbrev written : List ℕ
  written = header ++ joined rs

  -- the header says the block's number ..
  pub block_number : four (block_of form b rs) 0 ≡ b
  unfolding block_of sealed padded
  block_number = quad-back b

  -- .. how many records it has ..
  pub block_count : counted (block_of form b rs) ≡ length rs
  unfolding block_of sealed padded
  block_count = pair-back (length rs)

  -- .. the kind of the image ..
  pub block_kind : byte (block_of form b rs) 6 ≡ form.kind
  unfolding block_of sealed padded
  block_kind = refl

  -- .. and the byte 0 after it
  pub block_form_byte : byte (block_of form b rs) 7 ≡ 0
  unfolding block_of sealed padded
  block_form_byte = refl

  -- with records of the form's size, no more than there is room for
  module _ (room : Room form) (long : EachLong form.size rs) (few : length rs ≤ form.each) where
    -- the records end where the count says
    length_written : length written ≡ record_at form (length rs)
    length_written = let e = length_joined form.size rs long in omega arith

    -- the bytes before the check are 508
    length_front : length (padded 508 written) ≡ 508
    length_front = let most = mul-le-mul_left form.size few in length_padded 508 written (omega (arith, length_written, room.fits))

    -- a block has 512 bytes
    pub length_block : length (block_of form b rs) ≡ 512
    unfolding block_of
    length_block = length_sealed (padded 508 written) length_front

    -- its check is that of the bytes before it
    pub block_check : four (block_of form b rs) 508 ≡ check (take 508 (block_of form b rs))
    unfolding block_of
    block_check = sealed-check (padded 508 written) length_front

    -- from the last record to the check stand zeros
    pub block_zeros : (at : ℕ) → record_at form (length rs) ≤ at → at < 508 → byte (block_of form b rs) at ≡ 0
    unfolding block_of
    block_zeros at h l = sealed-byte (padded 508 written) length_front at l ∙ padded-zero 508 written at (omega (arith, length_written)) l

    -- record k stands where it is read
    pub block_record : (k : ℕ) → k < length rs → take form.size (drop (record_at form k) (block_of form b rs)) ≡ get_or rs k []
    unfolding block_of sealed padded
    block_record k h =
        let zeros : List ℕ = replicate (508 - length written) 0 in
        let stored = quad (check (padded 508 written)) in
        ap (take form.size) (drop-append-add header (joined rs ++ zeros ++ stored) (form.size * k) ∙ ap (drop (form.size * k)) (append_assoc (joined rs) zeros stored))
        ∙ stretch_before form.size rs (zeros ++ stored) k long h
