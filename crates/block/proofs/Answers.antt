-- The answer on a block by its three tests, and on an image block by block. Over plain variables: what each call gave, with what it ensures.
use Rattle.std.specs.Prelude.{Err}
use Rattle.std.proofs.Common.{◌≡◌, ℕ, suc, ◌+◌, ◌-◌, ◌*◌, ◌<◌, ◌≤◌, Bool, true, false, not, eqb, List, length, take, drop, sym, refl, ◌∙◌, add-one, arith}
use native.Mathlib.Nat.{sub-zero}
use borrow.Author.Tests.{not-true, not-false}
use Rattle.meaning.specs.declared.Form.{Form}
use Rattle.meaning.specs.Reading.{Reading, Accepted, Refused}
use Rattle.meaning.specs.Order.{and_then, earliest, in_order}
use Rattle.meaning.specs.Block.{blocks, block_at, counted, check_fits, header_fits, rest_zero, read_block, size_fits, image_tests}
use Rattle.meaning.proofs.Says.{says}

module _ (form : Form) (last : Bool) (b : ℕ) (s : List ℕ) where
  -- a good header has room for its records
  pub few-records : {h : Bool} → h ≡ header_fits form last b s → not h ≡ false → counted s ≤ form.each
  unfolding header_fits
  few-records e t = (simp says at (sym e ∙ not-false _ t)).1

  module _ {k : Bool} (ek : k ≡ check_fits s) where
    pub bad-check : not k ≡ true → Refused (form.base + 2) b ≡ read_block form last b s
    unfolding read_block
    bad-check t = rw (← ek, not-true k t)

    module _ (tk : not k ≡ false) {h : Bool} (eh : h ≡ header_fits form last b s) where
      pub bad-header : not h ≡ true → Refused (form.base + 3) b ≡ read_block form last b s
      unfolding read_block
      bad-header t = rw (← ek, not-false k tk, ← eh, not-true h t)

      module _ (th : not h ≡ false) {z : Bool} (ez : z ≡ rest_zero form s) where
        pub bad-rest : {p n : ℕ} → not z ≡ true → p ≡ form.each * b → n ≡ counted s → Refused (form.base + 4) (p + n) ≡ read_block form last b s
        unfolding read_block
        bad-rest t ep en = rw (← ek, not-false k tk, ← eh, not-false h th, ← ez, not-true z t, ep, en)

        pub good : not z ≡ false → Accepted ≡ read_block form last b s
        unfolding read_block
        good t = rw (← ek, not-false k tk, ← eh, not-false h th, ← ez, not-false z t)

-- block b of an image, as the code cuts it out
abbrev pub cut : List ℕ → ℕ → List ℕ
cut image b = take (512 * b + 512 - 512 * b) (drop (512 * b) image)

pub cut_block : (image : List ℕ) (b : ℕ) → cut image b ≡ block_at image b
cut_block image b =
    let width : 512 * b + 512 - 512 * b ≡ 512 = omega arith in
    rw width

-- what block b of an image says
abbrev pub answer_at : Form → List ℕ → ℕ → Reading
answer_at form image b = read_block form (eqb (suc b) (blocks image)) b (block_at image b)

ends : (x : Reading) → and_then x Accepted ≡ x
ends Accepted = refl
ends (Err why) = refl

module _ (form : Form) (image : List ℕ) where
  module _ {t : Bool} (e : t ≡ size_fits form image) where
    pub bad-size : not t ≡ true → Refused (form.base + 1) 0 ≡ in_order (image_tests form image)
    unfolding in_order image_tests earliest
    bad-size f = rw (← e, not-true t f)

    pub good_size : not t ≡ false → earliest (answer_at form image) 0 (blocks image - 0) ≡ in_order (image_tests form image)
    unfolding in_order image_tests earliest
    good_size f = rw (sub-zero, ← e, not-false t f) (sym (ends (earliest (answer_at form image) 0 (blocks image))))

    -- all blocks are whole, and few
    pub whole-blocks : not t ≡ false → (512 * blocks image ≡ length image) × (blocks image ≤ form.most)
    unfolding size_fits
    whole-blocks f =
        let p = simp says at (sym e ∙ not-false t f) in
        (omega arith, omega arith)

  -- block b, and those after it
  step : (b : ℕ) → b < blocks image
      → earliest (answer_at form image) b (blocks image - b) ≡ and_then (answer_at form image b) (earliest (answer_at form image) (b + 1) (blocks image - (b + 1)))
  unfolding earliest
  step b here =
      let e : blocks image - b ≡ suc (blocks image - (b + 1)) = omega arith in
      rw (e, add-one)

  pub last_passed : (b : ℕ) → blocks image ≤ b → Accepted ≡ earliest (answer_at form image) b (blocks image - b)
  unfolding earliest
  last_passed b past =
      let e : blocks image - b ≡ 0 = omega arith in
      rw e

  module _ (b : ℕ) (here : b < blocks image) {a : Reading} (ea : a ≡ read_block form (eqb (b + 1) (blocks image)) b (cut image b)) where
    said : answer_at form image b ≡ a
    said = sym (rw (cut_block image b, add-one) at ea)

    pub passed : a ≡ Accepted → earliest (answer_at form image) (b + 1) (blocks image - (b + 1)) ≡ earliest (answer_at form image) b (blocks image - b)
    passed e = rw (step b here, said, e)

    pub refused : {x y : ℕ} → a ≡ Refused x y → a ≡ earliest (answer_at form image) b (blocks image - b)
    refused e = rw (step b here, said, e)
