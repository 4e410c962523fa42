-- Digits one by one: what is left to spell leads to the number of all of them, capped or not.
use mathlib.Core.Path.{◌≡◌, refl, ap}
use mathlib.Core.Logic.{⊎_elim}
use mathlib.Core.Bool.{true, false}
use mathlib.Core.List.{List, [], ◌∷◌}
use Prim.Native.Nat.{ℕ, suc, ◌+◌, ◌≤◌, ◌<◌, min}
use native.Mathlib.Numerals.{add-one}
use native.Mathlib.Omega.{arith}
use borrow.Author.Tests.{leb-true}
use lib.Dec.{leb}
use lib.ListN.{length, drop, drop_of_length-le}
use lib.Seq.{drop-cons}
use Rattle.meaning.specs.Bytes.{byte}
use Rattle.meaning.proofs.Basics.{went, and_l, and_r}
use Rattle.typed.specs.declared.scan.Digits.{Digits}
use Rattle.typed.specs.Numeral.{is_digit, longer, digits, top, capped, digits_at}

-- a digit's code
pub digit_code : (x : ℕ) → is_digit x ≡ true → (48 ≤ x) × (x ≤ 57)
digit_code x e = (leb-true 48 x (and_l (leb 48 x) (leb x 57) e), leb-true x 57 (and_r (leb 48 x) (leb x 57) e))

-- digits after two numbers that are capped alike come to numbers that are
capped-alike : (s : List ℕ) (v w i : ℕ) → min v top ≡ min w top → capped (digits v i s) ≡ capped (digits w i s)
unfolding digits
capped-alike [] v w i e = ap {B = Digits} (λ k. record { value = k; next = i }) e
capped-alike (x ∷ s) v w i e =
    ⊎_elim
    (λ t. rw t (capped-alike s (longer v x) (longer w x) (suc i) (omega arith)))
    (λ t. rw t (ap {B = Digits} (λ k. record { value = k; next = i }) e))
    (went (is_digit x))

-- the digits from place i on, after those that spell v
unfoldable pub left : List ℕ → ℕ → ℕ → Digits
left text i v = capped (digits v i (drop i text))

-- all are left
pub left-all : (text : List ℕ) (at : ℕ) → left text at 0 ≡ digits_at text at
unfolding left digits_at
left-all text at = refl

module _ (text : List ℕ) (i v : ℕ) where
  -- one digit less
  pub left-on : {w : ℕ} → i < length text → is_digit (byte text i) ≡ true → w ≡ min (longer v (byte text i)) top → left text (i + 1) w ≡ left text i v
  unfolding left digits
  left-on {w} here d e =
      rw (add-one, drop-cons text i 0, d)
      (capped-alike (drop (suc i) text) w (longer v (byte text i)) (suc i) (omega arith))

  -- no digit
  pub left-none : i < length text → is_digit (byte text i) ≡ false → v ≤ top → record { value = v; next = i } ≡ left text i v
  unfolding left digits
  left-none here d few = let e : v ≡ min v top = omega arith in rw (drop-cons text i 0, d) (ap {B = Digits} (λ k. record { value = k; next = i }) e)

  -- no byte
  pub left_end : length text ≤ i → v ≤ top → record { value = v; next = i } ≡ left text i v
  unfolding left digits
  left_end past few = let e : v ≡ min v top = omega arith in rw (drop_of_length-le text past) (ap {B = Digits} (λ k. record { value = k; next = i }) e)
