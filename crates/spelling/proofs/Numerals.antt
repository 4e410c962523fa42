-- The digits that the library writes are the number's in decimal.
use mathlib.Core.Path.{◌≡◌, refl, ap}
use mathlib.Core.Logic.{⊎_elim}
use mathlib.Core.List.{◌∷◌, [], ◌++◌}
use Prim.Native.Nat.{ℕ, zero, suc, ◌+◌, ◌-◌, ◌/◌, ◌%◌, ◌^◌, ◌≤◌, ◌<◌}
use native.Mathlib.Nat.{pow-le-pow_right}
use native.Mathlib.Omega.{arith}
use lib.Dec.{ltb}
use lib.ListN.{length, length-append}
use borrow.Author.Tests.{lt-ltb, le-ltb}
use Rattle.io.specs.Digits.{last_digits, IsDigitCount}
use Rattle.meaning.proofs.Basics.{went, le_or_lt}
use Rattle.spelling.specs.Spelled.{word, digits_of, decimal, spaced}

as_digits : (f k n : ℕ) → k < f → n < 10 ^ suc k → (1 < suc k → 10 ^ k ≤ n) → last_digits 10 (suc k) n ≡ digits_of f n
unfolding digits_of
as_digits zero k n h few many = elim h [ ]
as_digits (suc f) zero n h few many = rw (lt-ltb n 10 (omega arith), lt-ltb (n % 10) 10 (omega arith)) refl
as_digits (suc f) (suc k) n h few many =
    let most : 10 ^ suc k ≤ n = many (omega arith) in
    rw (le-ltb n 10 (omega arith), lt-ltb (n % 10) 10 (omega arith))
    (ap (λ l. l ++ ((48 + n % 10) ∷ [])) (as_digits f k (n / 10) (omega arith) (omega arith) (λ _. omega arith)))

-- the fewest digits of a number of 64 bits are at most twenty
pub in_decimal : {n : ℕ} (k : ℕ) → n < 18446744073709551616 → IsDigitCount 10 1 n k → last_digits 10 k n ≡ decimal n
unfolding decimal
in_decimal {n} zero h f = absurd (omega (arith, f.0))
in_decimal {n} (suc k) h f =
    let e : suc k - 1 ≡ k = omega arith in
    let least : 1 < suc k → 10 ^ k ≤ n = λ l. rw (← e) (f.2 l) in
    ⊎_elim
    (λ (many : 20 ≤ k). absurd (omega (arith, least (omega arith), pow-le-pow_right {n = 10} (omega arith) many)))
    (λ few. as_digits 20 k n few f.1 least)
    (le_or_lt 20 k)

few-digits : (k n : ℕ) → length (digits_of k n) ≤ k
unfolding digits_of
few-digits zero n = omega arith
few-digits (suc k) n =
    ⊎_elim
    (λ e. rw e (omega arith))
    (λ e. rw e (omega (arith, length-append (digits_of k (n / 10)) ((48 + n % 10) ∷ []), few-digits k (n / 10))))
    (went (ltb n 10))

pub short : (n : ℕ) → length (decimal n) ≤ 20
unfolding decimal
short n = few-digits 20 n

-- from the least to the largest number of 64 bits
pub examples : (decimal 0 ≡ word "0") × (decimal 10 ≡ word "10") × (decimal 36525 ≡ word "36525") × (decimal 18446744073709551615 ≡ word "18446744073709551615") × (spaced 205 ≡ word " 205")
unfolding decimal digits_of word
examples = (refl, refl, refl, refl, refl)
