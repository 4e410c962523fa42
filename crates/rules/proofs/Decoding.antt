-- One record: its fields from what was read at each place, its zeros as the reader of blocks tests them, and what each of its three ways out says.
use mathlib.Core.Path.{◌≡◌, refl}
use mathlib.Core.Bool.{Bool, true, false, ◌&&◌, not, cond}
use mathlib.Core.List.{List, [], ◌∷◌}
use Prim.Native.Nat.{ℕ, zero, suc, ◌+◌, ◌*◌, ◌≤◌}
use native.Mathlib.Omega.{arith}
use borrow.Author.Tests.{ne_eqb, lt-ltb, not-true, not-false}
use lib.Dec.{eqb, ltb}
use lib.IntN.{ℤ}
use lib.ListN.{length, take, drop}
use lib.Seq.{drop-cons}
use Rattle.meaning.specs.Walk.{any, listed}
use Rattle.meaning.specs.Bytes.{byte, two, four, signed}
use Rattle.meaning.specs.Order.{need, and_then}
use Rattle.meaning.specs.Block.{all_zero}
use Rattle.meaning.specs.Rules.{rule_in, spare_in, rule_fields}
use Rattle.rules.specs.declared.decode.Numbers.{Numbers}
use Rattle.std.specs.Prelude.{Result, Ok, Err}
use Rattle.rules.specs.Decoding.{numbers_of, decoded_in, said}

module _ (s : List ℕ) where
  pub names : {a b c d e f g h : ℕ} → a ≡ two s 2 → b ≡ two s 4 → c ≡ two s 6 → d ≡ two s 8 → e ≡ two s 10 → f ≡ two s 12 → g ≡ two s 14 → h ≡ two s 16
      → a ∷ b ∷ c ∷ d ∷ e ∷ f ∷ g ∷ h ∷ [] ≡ listed (λ k. two s (2 + 2 * k)) 0 8
  unfolding listed
  names ea eb ec ed ee ef eg eh = rw (ea, eb, ec, ed, ee, ef, eg, eh)

  pub fields : {p : List ℕ} {f g b e n m : ℕ} {l h : ℤ} → p ≡ listed (λ k. two s (2 + 2 * k)) 0 8 → f ≡ two s 20 → g ≡ two s 22 → l ≡ signed (four s 24)
      → h ≡ signed (four s 28) → b ≡ two s 32 → e ≡ two s 34 → n ≡ two s 36 → m ≡ two s 40
      → record { kind = byte s 0; windowed = byte s 1; path = p; steps = byte s 18; distinct = byte s 19; field = f; referred = g; low = l; high = h; begin = b; end = e; span = n; unit = byte s 38; slide = m } ≡ rule_in s
  unfolding rule_in
  fields ep ef eg el eh eb ee en em = rw (ep, ef, eg, el, eh, eb, ee, en, em)

-- a byte is 0 where it is not above 0
one : (x : ℕ) (t : Bool) → (eqb x 0 && not t) ≡ not (cond (ltb 0 x) true t)
one zero t = refl
one (suc x) t = rw (ne_eqb (suc x) 0 (λ e. omega arith), lt-ltb 0 (suc x) (omega arith))

zeros : (s : List ℕ) (n i : ℕ) → i + n ≤ length s → all_zero (take n (drop i s)) ≡ not (any (λ k. ltb 0 (byte s k)) i n)
unfolding all_zero any
zeros s zero i h = refl
zeros s (suc n) i h =
    let here : suc i ≤ length s = omega arith in
    rw (drop-cons s i 0 here, zeros s n (suc i) (omega arith)) (one (byte s i) (any (λ k. ltb 0 (byte s k)) (suc i) n))

module _ (s : List ℕ) where
  pub spare : {z : Bool} → length s ≡ 50 → z ≡ all_zero (take 8 (drop 42 s)) → (eqb (byte s 39) 0 && z) ≡ spare_in s
  unfolding spare_in
  spare h e = rw (e, zeros s 8 42 (omega arith))

  module _ {z : Bool} (ez : z ≡ spare_in s) where
    pub not_zero : not z ≡ true → Err 24 ≡ decoded_in s
    unfolding decoded_in
    not_zero p = rw (← ez, not-true z p)

    module _ (zeroed : not z ≡ false) {f : Bool} (ef : f ≡ rule_fields (rule_in s)) where
      pub breaks-table : not f ≡ true → Err 25 ≡ decoded_in s
      unfolding decoded_in
      breaks-table p = rw (← ez, not-false z zeroed, ← ef, not-true f p)

      pub sound : {x : Numbers} → not f ≡ false → x ≡ numbers_of (rule_in s) → Ok x ≡ decoded_in s
      unfolding decoded_in
      sound p ex = rw (← ez, not-false z zeroed, ← ef, not-false f p, ex)

-- 24 ahead of 25, at record k; and what is decoded is what was read
module _ (x : Numbers) where
  abbrev both : Bool → Bool → Result Numbers ℕ
  both z f = cond z (cond f (Ok x) (Err 25)) (Err 24)

  by_both : (z f : Bool) (k : ℕ) → said (both z f) k ≡ and_then (need z 24 k) (need f 25 k)
  by_both true true k = refl
  by_both true false k = refl
  by_both false f k = refl

  none-else : (z f : Bool) {y : Numbers} → both z f ≡ Ok y → y ≡ x
  none-else true true e = cc
  none-else true false e = cc
  none-else false f e = cc

module _ (s : List ℕ) where
  pub orderly : (k : ℕ) → said (decoded_in s) k ≡ and_then (need (spare_in s) 24 k) (need (rule_fields (rule_in s)) 25 k)
  unfolding decoded_in
  orderly k = by_both (numbers_of (rule_in s)) (spare_in s) (rule_fields (rule_in s)) k

  pub taken : {y : Numbers} → decoded_in s ≡ Ok y → y ≡ numbers_of (rule_in s)
  unfolding decoded_in
  taken e = none-else (numbers_of (rule_in s)) (spare_in s) (rule_fields (rule_in s)) e
