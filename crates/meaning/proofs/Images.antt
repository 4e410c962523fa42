-- The tests of an image's form are accepted exactly where the image is sound, block by block: refusals 1 to 4 and 21 to 24.
use mathlib.Core.Path.{◌≡◌, refl, sym, ◌∙◌}
use mathlib.Core.Logic.{◌↔◌, ⊎_elim}
use mathlib.Core.Bool.{Bool, true, false, cond}
use mathlib.Core.List.{List, [], ◌∷◌}
use Prim.Native.Nat.{ℕ, zero, suc, ◌+◌, ◌-◌, ◌≤◌, ◌<◌}
use native.Mathlib.Omega.{arith}
use borrow.Author.Tests.{eqb-false, ne_eqb}
use lib.Dec.{eqb}
use lib.ListN.{take, drop}
use lib.Seq.{get_or-drop}
use Rattle.meaning.specs.Reading.{Accepted}
use Rattle.meaning.specs.Bytes.{byte}
use Rattle.meaning.specs.Order.{in_order}
use Rattle.meaning.specs.declared.Form.{Form}
use Rattle.meaning.specs.Block.{all_zero, blocks, block_at, counted, check_fits, header_fits, rest_zero, read_block, size_fits, image_tests}
use Rattle.meaning.proofs.Basics.{went}
use Rattle.meaning.proofs.Orders.{order-passed, passed-order}
use Rattle.meaning.proofs.Says.{says}
use Rattle.meaning.proofs.Summed.{check-summed}
use Rattle.meaning.proofs.Sound.{SoundBlock, SoundImage}

-- the first n bytes are zeros
zeros-front : (n : ℕ) (s : List ℕ) → all_zero (take n s) ≡ true ↔ ((k : ℕ) → k < n → byte s k ≡ 0)
unfolding all_zero
zeros-front zero s = (λ e k h. absurd (omega arith), λ h. refl)
zeros-front (suc n) [] = (λ e k h. refl, λ h. refl)
zeros-front (suc n) (x ∷ s) =
    let rest = zeros-front n s in (
      λ e k.
          let p = simp says at e in
          elim k as (λ k. k < suc n → byte (x ∷ s) k ≡ 0) [ zero ↦ λ h. p.0 | suc j ↦ λ h. rest.0 p.1 j (omega arith) ],
      λ h. simp says (h 0 (omega arith), rest.1 (λ k l. h (suc k) (omega arith))),
    )

-- zeros from place r up to, not including, place n
pub zeros-plain : (n r : ℕ) (s : List ℕ) → all_zero (take (n - r) (drop r s)) ≡ true ↔ ((at : ℕ) → r ≤ at → at < n → byte s at ≡ 0)
zeros-plain n r s =
    let front = zeros-front (n - r) (drop r s) in (
      λ e at h l.
          let k : r + (at - r) ≡ at = omega arith in
          rw (get_or-drop, k) at (front.0 e (at - r) (omega arith)),
      λ h. front.1 (λ k l. rw get_or-drop (h (r + k) (omega arith) (omega arith))),
    )

-- the least count of a block, last or not, is one or more
pub at_least : (last : Bool) (n c : ℕ) → 1 ≤ n → cond last 1 n ≤ c → 1 ≤ c
at_least true n c one h = h
at_least false n c one h = omega arith

module _ (form : Form) (image : List ℕ) (b : ℕ) (here : b < blocks image) where
  abbrev last : Bool
  last = eqb (suc b) (blocks image)

  -- 2, 3, 4 at block b: what an accepted block says ..
  block_sound : 1 ≤ form.each → read_block form last b (block_at image b) ≡ Accepted → SoundBlock form image b
  unfolding read_block check_fits header_fits rest_zero
  block_sound one e =
      let p = simp (says, zeros-plain) at e in
      let least = p.1.0.0.1 in
      record {
        check = p.0 ∙ check-summed (take 508 (block_at image b));
        number = omega arith;
        kind = omega arith;
        form_byte = omega arith;
        some = at_least last form.each _ one least;
        few = omega arith;
        full = λ l. let m = rw (ne_eqb (suc b) (blocks image) (omega arith)) at least in omega arith;
        zeros = p.1.1;
      }

  -- .. and that a block which says so is accepted
  sound-block : SoundBlock form image b → read_block form last b (block_at image b) ≡ Accepted
  unfolding read_block check_fits header_fits rest_zero
  sound-block s =
      let least : cond last 1 form.each ≤ counted (block_at image b) =
      ⊎_elim (λ y. rw y s.some) (λ z. rw z (omega (arith, s.full (omega (arith, eqb-false (suc b) (blocks image) z))))) (went last) in
      simp (says, zeros-plain) (s.check ∙ sym (check-summed (take 508 (block_at image b))), (((((s.number, s.kind), s.form_byte), least), s.few), s.zeros))

-- 1 to 4: an image that passes is sound; a full block has one record or more
pub image-sound : (form : Form) (image : List ℕ) → 1 ≤ form.each → in_order (image_tests form image) ≡ Accepted → SoundImage form image
unfolding image_tests size_fits
image-sound form image one e =
    let w = order-passed (image_tests form image) e in
    let p = simp says at (w.0 0 (omega arith)) in
    record { some = omega arith; whole = omega arith; few = omega arith; each_block = λ b h. block_sound form image b h one (w.1.0 b h) }

-- .. and a sound image passes
pub sound-image : (form : Form) (image : List ℕ) → SoundImage form image → in_order (image_tests form image) ≡ Accepted
unfolding image_tests size_fits
sound-image form image s =
    passed-order (image_tests form image)
    (λ j h. simp says ((s.some, s.whole), s.few), (λ b h. sound-block form image b h (s.each_block b h), tt))
