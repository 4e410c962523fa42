-- Numbers as they are scanned: the ways in which one is found or not, and how large it can be.
use mathlib.Core.Path.{◌≡◌, refl, ap, ◌∙◌}
use mathlib.Core.Logic.{⊎_elim}
use mathlib.Core.Bool.{Bool, true, false, ◌&&◌, cond}
use mathlib.Core.List.{List, [], ◌∷◌}
use Prim.Native.Nat.{ℕ, suc, ◌+◌, ◌-◌, ◌≤◌, ◌<◌}
use native.Mathlib.Omega.{arith}
use borrow.Author.Tests.{ltb-true, leb-true, lt-ltb, le-ltb, eq-eqb, ne_eqb}
use lib.Dec.{leb, ltb, eqb}
use lib.IntN.{ℤ, pos, negsuc}
use lib.Signed.{mag}
use lib.ListN.{length, drop}
use Rattle.std.specs.Prelude.{Option, Some, None}
use Rattle.meaning.specs.Bytes.{byte, signed}
use Rattle.meaning.proofs.Basics.{went, and_l, and_r}
use Rattle.typed.specs.declared.scan.Digits.{Digits}
use Rattle.typed.specs.Numeral.{is_digit, longer, digits, digits_at, stands, is_plain, number_at, upward, downward, value_at}

-- a byte stands inside the text
pub stands-inside : (text : List ℕ) (at x : ℕ) → stands text at x ≡ true → at < length text
unfolding stands
stands-inside text at x e = ltb-true at (length text) (and_l (ltb at (length text)) (eqb (byte text at) x) e)

-- the place after digits is not before the first
digits-after : (s : List ℕ) (v i : ℕ) → i ≤ (digits v i s).next
unfolding digits
digits-after [] v i = omega arith
digits-after (x ∷ s) v i =
    ⊎_elim
    (λ t. rw t (omega (arith, digits-after s (longer v x) (suc i))))
    (λ t. rw t (omega arith))
    (went (is_digit x))

-- of a text's digits
pub after-digits : (text : List ℕ) (at : ℕ) {d : Digits} → d ≡ digits_at text at → at ≤ d.next
unfolding digits_at
after-digits text at e = rw e (digits-after (drop at text) 0 at)

-- what was found with one place behind it is what was found
pub found_same : {A : Type 0} {x y : A} {m n : ℕ} → ◌≡◌ {A = Option (A × ℕ)} (Some (x, m)) (Some (y, n)) → x ≡ y
found_same {A} {x} {y} {m} {n} e = let same : ◌≡◌ {A = A × ℕ} (x, m) (y, n) = cc in ap (λ (p : A × ℕ). p.0) same

module _ (text : List ℕ) (at most stop : ℕ) where
  -- a number by its digits
  module _ {d : Digits} (e : d ≡ digits_at text at) where
    pub number-good : stands text d.next stop ≡ true → is_plain text at d.next && leb d.value most ≡ true → Some (d.value, d.next + 1) ≡ number_at text at most stop
    unfolding number_at
    number-good s p = rw (← e, s, p)

    pub number-unended : stands text d.next stop ≡ false → None ≡ number_at text at most stop
    unfolding number_at
    number-unended s = rw (← e, s)

    pub number-odd : stands text d.next stop ≡ true → is_plain text at d.next && leb d.value most ≡ false → None ≡ number_at text at most stop
    unfolding number_at
    number-odd s p = rw (← e, s, p)

  -- a number that was found is at most as large as was asked
  pub number-most : {v n : ℕ} → number_at text at most stop ≡ Some (v, n) → v ≤ most
  unfolding number_at
  number-most {v} {n} e =
      let d = digits_at text at in
      let plain = is_plain text at d.next in
      let fits = leb d.value most in
      let test = stands text d.next stop && (plain && fits) in
      ⊎_elim
      (λ t. let same : Some (d.value, d.next + 1) ≡ Some (v, n) = rw t at e in
      let u : d.value ≡ v = found_same same in
      let f : d.value ≤ most = leb-true d.value most (and_r plain fits (and_r (stands text d.next stop) (plain && fits) t)) in
      omega arith)
      (λ t. let wrong : None ≡ Some (v, n) = rw t at e in let z : ◌≡◌ {A = ℕ} 0 1 = cc in absurd (omega arith))
      (went test)

module _ (text : List ℕ) (at stop : ℕ) where
  -- a value without a minus
  module _ (plus : stands text at 45 ≡ false) where
    pub value-up : {m n : ℕ} {z : ℤ} → number_at text at 2147483647 stop ≡ Some (m, n) → z ≡ signed m → Some (z, n) ≡ value_at text at stop
    unfolding value_at signed
    value-up {m} {n} e q =
        let small : m < 2147483648 = omega (arith, number-most text at 2147483647 stop e) in
        rw (plus, e) (ap (λ (k : ℤ). Some (k, n)) (q ∙ rw (lt-ltb m 2147483648 small)))

    pub value-no_up : number_at text at 2147483647 stop ≡ None → None ≡ value_at text at stop
    unfolding value_at
    value-no_up e = rw (plus, e)

  -- a value with one
  module _ (minus : stands text at 45 ≡ true) where
    pub value-down : {m n : ℕ} {z : ℤ} → number_at text (at + 1) 2147483648 stop ≡ Some (m, n) → (m ≡ 0 → ⊥) → z ≡ signed (4294967296 - m) → Some (z, n) ≡ value_at text at stop
    unfolding value_at signed
    value-down {m} {n} e some q =
        let most = number-most text (at + 1) 2147483648 stop e in
        let back : 4294967295 - (4294967296 - m) ≡ m - 1 = omega arith in
        rw (minus, e, ne_eqb m 0 some) (ap (λ (k : ℤ). Some (k, n)) (q ∙ rw (le-ltb (4294967296 - m) 2147483648 (omega arith), back)))

    pub value-zero : {m n : ℕ} → number_at text (at + 1) 2147483648 stop ≡ Some (m, n) → m ≡ 0 → None ≡ value_at text at stop
    unfolding value_at
    value-zero {m} e none = rw (minus, e, eq-eqb m 0 none)

    pub value-no_down : number_at text (at + 1) 2147483648 stop ≡ None → None ≡ value_at text at stop
    unfolding value_at
    value-no_down e = rw (minus, e)

  -- a value that was found is an i32
  pub value-fits : {z : ℤ} {n : ℕ} → value_at text at stop ≡ Some (z, n) → mag z < 2147483648
  unfolding value_at
  value-fits {z} {n} e = ⊎_elim (λ t. below _ refl (rw t at e)) (λ t. above _ refl (rw t at e)) (went (stands text at 45))
    where
      above : (s : Option (ℕ × ℕ)) → number_at text at 2147483647 stop ≡ s → upward s ≡ Some (z, n) → mag z < 2147483648
      above (Some (m, k)) f g = let same : pos m ≡ z = found_same g in rw (← same) (omega (arith, number-most text at 2147483647 stop f))
      above None f g = let wrong : ◌≡◌ {A = ℕ} 0 1 = cc in absurd (omega arith)

      negative : (m k : ℕ) → m ≤ 2147483648 → (t : Bool) → cond {A = Option (ℤ × ℕ)} t None (Some (negsuc (m - 1), k)) ≡ Some (z, n) → mag z < 2147483648
      negative m k most true g = let wrong : ◌≡◌ {A = ℕ} 0 1 = cc in absurd (omega arith)
      negative m k most false g = let same : negsuc (m - 1) ≡ z = found_same g in rw (← same) (omega arith)

      below : (s : Option (ℕ × ℕ)) → number_at text (at + 1) 2147483648 stop ≡ s → downward s ≡ Some (z, n) → mag z < 2147483648
      below (Some (m, k)) f g = negative m k (number-most text (at + 1) 2147483648 stop f) (eqb m 0) g
      below None f g = let wrong : ◌≡◌ {A = ℕ} 0 1 = cc in absurd (omega arith)
