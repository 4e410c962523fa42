-- How many blocks some records take, and how many of them each block has: every block but the last is full, the last has the rest.
use mathlib.Core.Path.{◌≡◌, ◌∙◌}
use mathlib.Core.List.{List, []}
use Prim.Native.Nat.{ℕ, ◌+◌, ◌*◌, ◌-◌, ◌/◌, ◌≤◌, ◌<◌, min}
use native.Mathlib.Nat.{mul_comm, suc-mul, le-div_iff_mul-le, lt-div-mul-add, lt_of_mul-lt-mul_left, div-add-mod}
use native.Mathlib.Omega.{arith}
use lib.ListN.{length, get_or, length-take, length-drop}
use lib.Seq.{get_or-take, get_or-drop}
use Rattle.meaning.specs.declared.Form.{Form}
use Rattle.meaning.specs.Block.{blocks_for, share}
use Rattle.writer.proofs.Joins.{EachLong, long_part}

module _ (form : Form) (some : 1 ≤ form.each) (n : ℕ) where
  -- the blocks before one that is taken do not hold all records
  pub block_taken : (b : ℕ) → b < blocks_for form n → form.each * b < n
  unfolding blocks_for
  block_taken b h = omega (arith, (le-div_iff_mul-le some).0 h, suc-mul b form.each, mul_comm b form.each)

  -- the blocks together do
  pub all_held : n ≤ form.each * blocks_for form n
  unfolding blocks_for
  all_held = let q = (n + (form.each - 1)) / form.each in omega (arith, lt-div-mul-add {a = n + (form.each - 1)} some, mul_comm q form.each)

  -- a block that is needed is taken
  pub block_needed : (b : ℕ) → form.each * b < n → b < blocks_for form n
  block_needed b h = lt_of_mul-lt-mul_left form.each (omega (arith, all_held))

  -- records within so many blocks take no more
  pub blocks-few : (most : ℕ) → n ≤ form.each * most → blocks_for form n ≤ most
  blocks-few most h = let fewer : most < blocks_for form n → ⊥ = λ l. let more = block_taken most l in omega arith in omega arith

  -- record i stands in a block that is taken
  pub record_held : (i : ℕ) → i < n → i / form.each < blocks_for form n
  record_held i h = block_needed (i / form.each) (omega (arith, div-add-mod i form.each))

module _ (form : Form) (rs : List (List ℕ)) (b : ℕ) where
  -- how many records block b has
  pub length_share : length (share form b rs) ≡ min form.each (length rs - form.each * b)
  unfolding share
  length_share = rw (length-take, length-drop)

  -- each as long as they all are
  pub long_share : (w : ℕ) → EachLong w rs → EachLong w (share form b rs)
  unfolding share
  long_share w = long_part w form.each (form.each * b) rs

  -- its record k
  pub share-at : (k : ℕ) → k < form.each → get_or (share form b rs) k [] ≡ get_or rs (form.each * b + k) []
  unfolding share
  share-at k h = get_or-take form.each _ k [] h ∙ get_or-drop (form.each * b) rs k []
