-- An accepted image with any one byte changed is refused by the check of that byte's block: refusals 2 and 22 (01, "Blocks").
use mathlib.Core.Path.{◌≡◌, sym, ◌∙◌, ap}
use mathlib.Core.Logic.{⊎_elim}
use mathlib.Core.Bool.{true, false}
use mathlib.Core.List.{List}
use Prim.Native.Nat.{ℕ, zero, suc, ◌+◌, ◌*◌, ◌-◌, ◌/◌, ◌≤◌, ◌<◌}
use native.Mathlib.Omega.{arith}
use borrow.Author.Tests.{eqb-true, ne_eqb}
use lib.ListN.{length, take, drop, set, length-take, length-drop, length-set}
use lib.Seq.{take-set-lt, take-set-le, drop-set-add, get_or-set_same, get_or-set_other, get_or-take, get_or-drop}
use Rattle.meaning.specs.Reading.{Accepted, Refused}
use Rattle.meaning.specs.Bytes.{byte, four}
use Rattle.meaning.specs.Order.{in_order}
use Rattle.meaning.specs.declared.Form.{Form}
use Rattle.meaning.specs.Block.{node_form, rule_form, check, block_at, check_fits, read_block, size_fits, image_tests}
use Rattle.meaning.specs.Nodes.{read_nodes}
use Rattle.meaning.specs.Rules.{read_rules}
use Rattle.meaning.proofs.Basics.{le_or_lt}
use Rattle.meaning.proofs.Orders.{order-passed, here, later}
use Rattle.meaning.proofs.Says.{says}
use Rattle.meaning.proofs.Checks.{check-shows}
use Rattle.meaning.proofs.Refusals.{earliest-refusal}

-- two lists with one number in the four bytes from 508 on, that differ at most at byte 508 + m, do not differ there
digit : (s t : List ℕ) (m : ℕ) → m < 4 → ((k : ℕ) → (k ≡ 508 + m → ⊥) → byte s k ≡ byte t k) → four s 508 ≡ four t 508 → byte s (508 + m) ≡ byte t (508 + m)
digit s t zero h same e = omega (arith, same 509 (omega arith), same 510 (omega arith), same 511 (omega arith))
digit s t (suc zero) h same e = omega (arith, same 508 (omega arith), same 510 (omega arith), same 511 (omega arith))
digit s t (suc (suc zero)) h same e = omega (arith, same 508 (omega arith), same 509 (omega arith), same 511 (omega arith))
digit s t (suc (suc (suc zero))) h same e = omega (arith, same 508 (omega arith), same 509 (omega arith), same 510 (omega arith))
digit s t (suc (suc (suc (suc m)))) h same e = absurd (omega arith)

module _ (s : List ℕ) (j x : ℕ) (len : length s ≡ 512) (hs : byte s j < 256) (hx : x < 256) (hj : j < 512) (ne : x ≡ byte s j → ⊥) where
  -- the other bytes stay
  kept : (k : ℕ) → (k ≡ j → ⊥) → byte (set s j x) k ≡ byte s k
  kept k n = get_or-set_other s j k x 0 n

  -- of the block's own bytes, the stored check among them
  block_shows : check_fits s ≡ true → check_fits (set s j x) ≡ false
  unfolding check_fits
  block_shows ok = ne_eqb _ _ (λ e. ⊎_elim (after e) (before e) (le_or_lt 508 j))
    where
      stored : four s 508 ≡ check (take 508 s)
      stored = eqb-true _ _ ok

      before : four (set s j x) 508 ≡ check (take 508 (set s j x)) → j < 508 → ⊥
      before e h =
          let four_same : four (set s j x) 508 ≡ four s 508 = omega (arith, kept 508 (omega arith), kept 509 (omega arith), kept 510 (omega arith), kept 511 (omega arith)) in
          let front : byte (take 508 s) j ≡ byte s j = get_or-take 508 s j 0 h in
          check-shows (take 508 s) j x (simp length-take (omega arith)) (omega arith) hx (λ q. ne (q ∙ front))
          (ap check (sym (take-set-lt 508 s j x h)) ∙ sym e ∙ four_same ∙ stored)

      after : four (set s j x) 508 ≡ check (take 508 (set s j x)) → 508 ≤ j → ⊥
      after e h =
          let place : 508 + (j - 508) ≡ j = omega arith in
          let same = digit (set s j x) s (j - 508) (omega arith) (rw place kept) (e ∙ ap check (take-set-le 508 s j x h) ∙ sym stored) in
          ne (sym (get_or-set_same s j x 0 (omega arith)) ∙ (rw place at same))

-- the bytes from block b on
from_block : (image : List ℕ) (i x b : ℕ) → 512 * b ≤ i → drop (512 * b) (set image i x) ≡ set (drop (512 * b) image) (i - 512 * b) x
from_block image i x b h =
    let place : i ≡ 512 * b + (i - 512 * b) = omega arith in
    ap (λ (n : ℕ). drop (512 * b) (set image n x)) place ∙ drop-set-add (512 * b) image (i - 512 * b) x

-- of an image's bytes: the first block that no longer passes is the byte's own, and there the check comes first
pub byte-shows : (form : Form) (image : List ℕ) (i x : ℕ) → ((k : ℕ) → byte image k < 256) → x < 256 → i < length image → (x ≡ byte image i → ⊥)
    → in_order (image_tests form image) ≡ Accepted → in_order (image_tests form (set image i x)) ≡ Refused (form.base + 2) (i / 512)
unfolding image_tests size_fits read_block
byte-shows form image i x hs hx hi ne e =
    let w = order-passed (image_tests form image) e in
    let size = simp says at (w.0 0 (omega arith)) in
    let b = i / 512 in
    let j = i - 512 * b in
    let back : 512 * b + j ≡ i = omega arith in
    let there : byte (block_at image b) j ≡ byte image i = get_or-take 512 (drop (512 * b) image) j 0 (omega arith) ∙ get_or-drop (512 * b) image j 0 ∙ ap (byte image) back in
    let shown : check_fits (set (block_at image b) j x) ≡ false =
    block_shows (block_at image b) j x (simp (length-take, length-drop) (omega arith)) (omega (arith, hs i)) hx (omega arith) (λ q. ne (q ∙ there)) (simp says at (w.1.0 b (omega arith))).0 in
    earliest-refusal (form.base + 2) (i / 512)
    (later _ _ (λ k h. rw length-set (w.0 k h))
    (here _ _
    (record {
      spot = i / 512;
      from = omega arith;
      below = rw length-set (omega arith);
      refused = rw (from_block image i x b (omega arith), take-set-lt 512 (drop (512 * b) image) j x (omega arith), shown);
      before = λ m a l. rw (length-set, from_block image i x m (omega arith), take-set-le 512 (drop (512 * m) image) (i - 512 * m) x (omega arith)) (w.1.0 m (omega arith));
    })))

-- 01: an accepted node image with any one byte changed is refused with 2, at that byte's block
pub node-byte_shows : (image : List ℕ) (i x : ℕ) → ((k : ℕ) → byte image k < 256) → x < 256 → i < length image → (x ≡ byte image i → ⊥) → read_nodes image ≡ Accepted → read_nodes (set image i x) ≡ Refused 2 (i / 512)
unfolding read_nodes
node-byte_shows image i x hs hx hi ne e = rw (byte-shows node_form image i x hs hx hi ne (simp says at e).0)

-- 01: an accepted rule image with any one byte changed is refused with 22, at that byte's block
pub rule_byte_shows : (image : List ℕ) (i x : ℕ) → ((k : ℕ) → byte image k < 256) → x < 256 → i < length image → (x ≡ byte image i → ⊥) → read_rules image ≡ Accepted → read_rules (set image i x) ≡ Refused 22 (i / 512)
unfolding read_rules
rule_byte_shows image i x hs hx hi ne e = rw (byte-shows rule_form image i x hs hx hi ne (simp says at e).0)
