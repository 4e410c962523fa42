-- The bytes of a text from a place on: what stands at the place, and what stands behind some of them.
use mathlib.Core.Path.{◌≡◌, sym, ap, ◌∙◌}
use mathlib.Core.Bool.{true}
use mathlib.Core.List.{List, [], ◌∷◌, ◌++◌}
use Prim.Native.Nat.{ℕ, suc, ◌+◌, ◌<◌}
use native.Mathlib.Numerals.{add-one}
use native.Mathlib.Omega.{arith}
use borrow.Author.Tests.{ltb-true, lt-ltb, eqb-true, eq-eqb}
use lib.Dec.{eqb, ltb}
use lib.ListN.{length, get_or, drop, length-drop}
use lib.Seq.{drop-cons, drop-drop, drop-append_seam}
use Rattle.meaning.specs.Bytes.{byte}
use Rattle.meaning.proofs.Basics.{and_l, and_r, both}
use Rattle.typed.specs.Numeral.{stands}

module _ (d : List ℕ) (i : ℕ) where
  -- what stands behind the first bytes from a place on
  pub behind_front : (a : List ℕ) {b : List ℕ} → drop i d ≡ a ++ b → drop (i + length a) d ≡ b
  behind_front a {b} e = sym (drop-drop (length a) i d) ∙ ap (drop (length a)) e ∙ drop-append_seam a b

  module _ {x : ℕ} where
    -- what stands behind a byte
    pub behind_byte : {b : List ℕ} → drop i d ≡ x ∷ b → drop (i + 1) d ≡ b
    behind_byte e = behind_front (x ∷ []) e

    -- the byte that comes next from a place on stands there
    pub next-stands : {b : List ℕ} → drop i d ≡ x ∷ b → stands d i x ≡ true
    unfolding stands
    next-stands e =
        let here : i < length d = omega (arith, length-drop i d, ap length e) in
        let all : get_or d i 0 ∷ drop (suc i) d ≡ x ∷ _ = sym (drop-cons d i 0 here) ∙ e in
        both (ltb i (length d)) (eqb (byte d i) x) (lt-ltb i (length d) here) (eq-eqb (byte d i) x (cc))

    -- a byte that stands at a place comes next from there on
    pub stands-next : stands d i x ≡ true → drop i d ≡ x ∷ drop (i + 1) d
    unfolding stands
    stands-next s =
        let here : i < length d = ltb-true i (length d) (and_l (ltb i (length d)) (eqb (byte d i) x) s) in
        let is : byte d i ≡ x = eqb-true (byte d i) x (and_r (ltb i (length d)) (eqb (byte d i) x) s) in
        rw (add-one) (drop-cons d i 0 here ∙ ap (λ y. y ∷ drop (suc i) d) is)
