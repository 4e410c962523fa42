-- The tests of an image's blocks refuse exactly as the lines of 01's table are due: 1 to 4 and 21 to 24, over the form of the image.
use mathlib.Core.Path.{◌≡◌, sym, ◌∙◌}
use mathlib.Core.Logic.{◌↔◌, ⊎_elim}
use mathlib.Core.Bool.{Bool, true, false, ◌&&◌, cond, false≢true}
use mathlib.Core.List.{List, [], ◌∷◌}
use Prim.Native.Nat.{ℕ, zero, suc, ◌+◌, ◌-◌, ◌%◌, ◌≤◌, ◌<◌}
use native.Mathlib.Omega.{arith}
use borrow.Author.Tests.{eqb-false, ne_eqb, leb-false}
use lib.Dec.{eqb, leb}
use lib.ListN.{length, take, drop}
use lib.Seq.{get_or-drop}
use Rattle.meaning.specs.declared.Form.{Form}
use Rattle.meaning.specs.Bytes.{byte, four}
use Rattle.meaning.specs.Order.{need, in_order}
use Rattle.meaning.specs.Block.{all_zero, blocks, block_at, counted, record_at, check_fits, header_fits, rest_zero, read_block, size_fits, image_tests}
use Rattle.meaning.proofs.Basics.{went, and_else}
use Rattle.meaning.proofs.Says.{says}
use Rattle.meaning.proofs.Summed.{check_sum, check-summed}
use Rattle.meaning.proofs.Images.{zeros-plain, at_least}
use Rattle.meaning.proofs.Lines.{line, each, Says, need-says, need-broken, then_says, last_says, each-says, one-says}
use Rattle.meaning.proofs.Due.{WrongLength, empty, broken_block, too_many, WrongHeader, number, kind_byte, form_byte, count_none, count_over, not_full, NotZeros, block_lines}

-- a byte among the first n that is not zero
set_front : (n : ℕ) (s : List ℕ) → all_zero (take n s) ≡ false → (k : ℕ) × (k < n) × (byte s k ≡ 0 → ⊥)
unfolding all_zero
set_front zero s e = absurd (false≢true (sym e))
set_front (suc n) [] e = absurd (false≢true (sym e))
set_front (suc n) (x ∷ s) e =
    and_else (eqb x 0) (all_zero (take n s))
    (λ z. (0, omega arith, eqb-false x 0 z))
    (λ z. let r = set_front n s z in (suc r.0, omega (arith, r.1), r.2))
    e

-- one from place r up to, not including, place n
set_plain : (n r : ℕ) (s : List ℕ) → all_zero (take (n - r) (drop r s)) ≡ false → (at : ℕ) × (r ≤ at) × (at < n) × (byte s at ≡ 0 → ⊥)
set_plain n r s e =
    let w = set_front (n - r) (drop r s) e in
    (r + w.0, omega arith, omega (arith, w.1), rw get_or-drop at w.2)

module _ (form : Form) (image : List ℕ) where
  -- 1
  length_wrong : size_fits form image ≡ false → WrongLength form.most image
  unfolding size_fits
  length_wrong =
      let some = leb 1 (length image) in
      let whole = eqb (length image % 512) 0 in
      and_else (some && whole) (leb (blocks image) form.most)
      (and_else some whole (λ z. empty (omega (arith, leb-false 1 (length image) z))) (λ z. broken_block (eqb-false (length image % 512) 0 z)))
      (λ z. too_many (leb-false (blocks image) form.most z))

  length_right : size_fits form image ≡ true → WrongLength form.most image → ⊥
  unfolding size_fits
  length_right e (empty z) = let w = simp says at e in omega arith
  length_right e (broken_block f) = f (simp says at e).0.1
  length_right e (too_many h) = let w = simp says at e in omega arith

  module _ (b : ℕ) (here : b < blocks image) (one : 1 ≤ form.each) where
    abbrev bytes : List ℕ
    bytes = block_at image b

    abbrev last : Bool
    last = eqb (suc b) (blocks image)

    abbrev Wrong : Type 0
    Wrong = WrongHeader form.kind form.each image b

    -- the least count of the last block, and of another
    count-wrong : leb (cond last 1 form.each) (counted bytes) ≡ false → Wrong
    count-wrong e =
        let few = leb-false (cond last 1 form.each) (counted bytes) e in
        ⊎_elim
        (λ y. let m = rw y at few in count_none (omega arith))
        (λ z. let m = rw z at few in not_full (omega (arith, eqb-false (suc b) (blocks image) z)) m)
        (went last)

    header-wrong : header_fits form last b bytes ≡ false → Wrong
    unfolding header_fits
    header-wrong =
        let n = eqb (four bytes 0) b in
        let k = eqb (byte bytes 6) form.kind in
        let f = eqb (byte bytes 7) 0 in
        let least = leb (cond last 1 form.each) (counted bytes) in
        and_else (n && k && f && least) (leb (counted bytes) form.each)
        (and_else (n && k && f) least
        (and_else (n && k) f
        (and_else n k (λ z. number (eqb-false (four bytes 0) b z)) (λ z. kind_byte (eqb-false (byte bytes 6) form.kind z)))
        (λ z. form_byte (eqb-false (byte bytes 7) 0 z)))
        count-wrong)
        (λ z. count_over (leb-false (counted bytes) form.each z))

    header-right : header_fits form last b bytes ≡ true → Wrong → ⊥
    unfolding header_fits
    header-right e (number f) = f (simp says at e).0.0.0.0
    header-right e (kind_byte f) = f (simp says at e).0.0.0.1
    header-right e (form_byte f) = f (simp says at e).0.0.1
    header-right e (count_none z) = let some = at_least last form.each (counted bytes) one (simp says at e).0.1 in omega arith
    header-right e (count_over h) = let p = simp says at e in omega arith
    header-right e (not_full l h) = let m = rw (ne_eqb (suc b) (blocks image) (omega arith)) at (simp says at e).0.1 in omega arith

    check-right : (check_fits bytes ≡ true) ↔ (four bytes 508 ≡ check_sum (take 508 bytes))
    unfolding check_fits
    check-right =
        let same = check-summed (take 508 bytes) in
        (λ e. (simp says at e) ∙ same, λ e. simp says (e ∙ sym same))

    rest_set : rest_zero form bytes ≡ false → NotZeros form.size image b
    unfolding rest_zero
    rest_set e = let w = set_plain 508 (record_at form (counted bytes)) bytes e in record { at = w.0; after = w.1; before = w.2; set = w.3 }

    rest_zero_lem : rest_zero form bytes ≡ true → NotZeros form.size image b → ⊥
    unfolding rest_zero
    rest_zero_lem e n = n.set ((zeros-plain 508 (record_at form (counted bytes)) bytes).0 e n.at n.after n.before)

    -- 2, 3, 4
    block_says : Says (read_block form last b bytes) (block_lines (form.base + 2) (form.base + 3) (form.base + 4) form.kind form.each form.size image b)
    unfolding read_block
    block_says =
        then_says (need (check_fits bytes) (form.base + 2) b) _ (need-broken (check_fits bytes) check-right)
        (λ e. then_says (need (header_fits form last b bytes) (form.base + 3) b) _ (need-says (header_fits form last b bytes) header-right header-wrong)
        (λ d. need-says (rest_zero form bytes) rest_zero_lem rest_set))

  -- 1, then block by block
  pub blocks-say : 1 ≤ form.each → Says (in_order (image_tests form image)) (
      line (form.base + 1) 0 (WrongLength form.most image)
      ∷ each (blocks image) (block_lines (form.base + 2) (form.base + 3) (form.base + 4) form.kind form.each form.size image)
      )
  unfolding image_tests in_order
  blocks-say one =
      then_says _ _ (one-says (need (size_fits form image) (form.base + 1)) (need-says (size_fits form image) length_right length_wrong))
      (λ e. last_says _ (each-says _ _ 0 (blocks image) (λ b a h p. block_says b (omega arith) one)))
