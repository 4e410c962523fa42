-- The terms of each kind are what the kind's rule says.
use mathlib.Core.Path.{◌≡◌, refl}
use mathlib.Core.Bool.{true}
use Prim.Native.Nat.{ℕ}
use native.Mathlib.Omega.{arith}
use borrow.Author.Tests.{le-leb}
use lib.IntN.{ℤ, pos, negsuc}
use lib.Signed.{mag, ◌≤ℤ◌}
use Rattle.meaning.specs.declared.Rule.{Rule}
use Rattle.meaning.specs.Rules.{rule_fields}
use Rattle.meaning.proofs.Says.{le_z_passes}
use Rattle.meaning.proofs.Rows.{RuleRow}
use Rattle.meaning.proofs.Tables.{rule_row}
use Rattle.numbers.proofs.Callers.{magnitude_up}
use Rattle.day.specs.Ready.{Terms, TermsBy}

-- what is not below a number from 0 up is from 0 up
still_up : (a b : ℤ) → pos 0 ≤ℤ a → a ≤ℤ b → pos 0 ≤ℤ b
still_up a (pos n) h k = (le_z_passes (pos 0) (pos n)).0 (le-leb 0 n (omega arith))
still_up (pos m) (negsuc n) h k = absurd k.le
still_up (negsuc m) (negsuc n) h k = absurd h.le

module _ (r : Rule) where
  pub key-terms : r.kind ≡ 1 → Terms r 1 1 1
  unfolding Terms TermsBy
  key-terms e = rw e (refl, refl, refl)

  pub unique-terms : r.kind ≡ 2 → Terms r 1 0 1
  unfolding Terms TermsBy
  unique-terms e = rw e (refl, refl, refl)

  pub reference-terms : r.kind ≡ 3 → Terms r 2 0 1
  unfolding Terms TermsBy
  reference-terms e = rw e (refl, refl, refl)

  module _ (f : rule_fields r ≡ true) where
    row : RuleRow r
    row = (rule_row r).0 f

    -- neither bound is below 0
    up : {z : ℤ} → pos 0 ≤ℤ z → pos (mag z) ≡ z
    up {z} h = magnitude_up z ((le_z_passes (pos 0) z).1 h)

    pub cardinality-terms : r.kind ≡ 4 → {l h : ℕ} → l ≡ mag r.low → h ≡ mag r.high → Terms r 0 l h
    unfolding Terms TermsBy
    cardinality-terms e p q =
        let low = row.bounds.low e in
        rw (e, p, q) (refl, up low, up (still_up r.low r.high low row.bounds.order))

    pub datatype-terms : (r.kind ≡ 1 → ⊥) → (r.kind ≡ 2 → ⊥) → (r.kind ≡ 3 → ⊥) → (r.kind ≡ 4 → ⊥) → Terms r 0 0 0
    unfolding Terms TermsBy
    datatype-terms a b c d =
        let e : r.kind ≡ 5 = omega (arith, row.kind, row.kind_most) in
        rw e (refl, refl, refl)
