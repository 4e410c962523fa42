-- What a test says by passing or by failing: equivalences by which `simp says` reads a test as a statement, and a statement as a test.
use mathlib.Core.Path.{◌≡◌, refl, sym, ap}
use mathlib.Core.Logic.{◌↔◌, ◌⊎◌, inl, inr, ⊎_elim}
use mathlib.Core.Bool.{Bool, true, false, ◌&&◌, ◌||◌, not, false≢true}
use Prim.Native.Nat.{ℕ, ◌≤◌, ◌<◌}
use lib.IntN.{ℤ, pos, negsuc}
use lib.Ieee.Bits.{is_true}
use lib.Signed.{le_z, ◌≤ℤ◌, le_z_yes}
use lib.Dec.{leb, ltb, eqb}
use borrow.Author.Tests.{ltb-true, ltb-false, leb-true, leb-false, lt-ltb, le-ltb, le-leb, lt-leb, eqb-true, eqb-false, eq-eqb, ne_eqb, not-true, not-false}
use Rattle.meaning.specs.Reading.{Reading, Accepted}
use Rattle.meaning.specs.Walk.{any}
use Rattle.meaning.specs.Bytes.{eq_z}
use Rattle.meaning.specs.Order.{need, and_then}
use Rattle.meaning.proofs.Basics.{went, and_l, and_r, both, neither_l, neither_r}
use Rattle.meaning.proofs.Walks.{NonePass, any_none, any_false}
use Rattle.meaning.proofs.Orders.{need-accepted, needed, then_accepted, then_both}

pub and_passes : (a b : Bool) → (a && b ≡ true) ↔ ((a ≡ true) × (b ≡ true))
and_passes a b = (λ e. (and_l a b e, and_r a b e), λ p. both a b p.0 p.1)

pub and_fails : (a b : Bool) → (a && b ≡ false) ↔ (a ≡ true → b ≡ false)
and_fails true b = (λ e p. e, λ f. f refl)
and_fails false b = (λ e p. absurd (false≢true p), λ f. refl)

pub or_passes : (a b : Bool) → (a || b ≡ true) ↔ (a ≡ false → b ≡ true)
or_passes true b = (λ e p. absurd (false≢true (sym p)), λ f. refl)
or_passes false b = (λ e p. e, λ f. f refl)

pub or_fails : (a b : Bool) → (a || b ≡ false) ↔ ((a ≡ false) × (b ≡ false))
or_fails a b = (λ e. (neither_l a b e, neither_r a b e), λ p. rw p.0 p.1)

pub not_passes : (a : Bool) → (not a ≡ true) ↔ (a ≡ false)
not_passes a = (not-true a, λ e. rw e)

pub not_fails : (a : Bool) → (not a ≡ false) ↔ (a ≡ true)
not_fails a = (not-false a, λ e. rw e)

pub eq_passes : (a b : ℕ) → (eqb a b ≡ true) ↔ (a ≡ b)
eq_passes a b = (eqb-true a b, eq-eqb a b)

pub eq_fails : (a b : ℕ) → (eqb a b ≡ false) ↔ (a ≡ b → ⊥)
eq_fails a b = (eqb-false a b, ne_eqb a b)

-- what follows unless two numbers are equal, as a choice; not of `says`, where it would turn every such statement into one
pub unless : (a b : ℕ) {B : Type 0} → ((a ≡ b → ⊥) → B) ↔ ((a ≡ b) ⊎ B)
unless a b = (
  λ f. ⊎_elim (λ y. inl (eqb-true a b y)) (λ z. inr (f (eqb-false a b z))) (went (eqb a b)),
  λ s n. ⊎_elim (λ e. absurd (n e)) (λ x. x) s,
)

pub lt_passes : (a b : ℕ) → (ltb a b ≡ true) ↔ (a < b)
lt_passes a b = (ltb-true a b, lt-ltb a b)

pub lt_fails : (a b : ℕ) → (ltb a b ≡ false) ↔ (b ≤ a)
lt_fails a b = (ltb-false a b, le-ltb a b)

pub le_passes : (a b : ℕ) → (leb a b ≡ true) ↔ (a ≤ b)
le_passes a b = (leb-true a b, le-leb a b)

pub le_fails : (a b : ℕ) → (leb a b ≡ false) ↔ (b < a)
le_fails a b = (leb-false a b, lt-leb a b)

pub eq_z-passes : (a b : ℤ) → (eq_z a b ≡ true) ↔ (a ≡ b)
eq_z-passes (pos a) (pos b) = (λ e. ap pos (eqb-true a b e), λ e. eq-eqb a b (cc))
eq_z-passes (negsuc a) (negsuc b) = (λ e. ap negsuc (eqb-true a b e), λ e. eq-eqb a b (cc))
eq_z-passes (pos a) (negsuc b) = (λ e. absurd (false≢true e), λ e. cc)
eq_z-passes (negsuc a) (pos b) = (λ e. absurd (false≢true e), λ e. cc)

pub le_z_passes : (a b : ℤ) → (le_z a b ≡ true) ↔ (a ≤ℤ b)
le_z_passes a b = (λ e. le_z_yes (rw e tt), λ p. is_true (le_z a b) p.le)

pub any-fails : (f : ℕ → Bool) (i n : ℕ) → (any f i n ≡ false) ↔ NonePass f i n
any-fails f i n = (any_false f i n, any_none f i n)

pub need-passes : (t : Bool) (k i : ℕ) → (need t k i ≡ Accepted) ↔ (t ≡ true)
need-passes t k i = (need-accepted t k i, needed t k i)

pub then_passes : (a b : Reading) → (and_then a b ≡ Accepted) ↔ ((a ≡ Accepted) × (b ≡ Accepted))
then_passes a b = (then_accepted a b, λ p. then_both a b p.0 p.1)

-- read by `simp says at e`, shown by `simp says p`
pub ruleset says =
    (and_passes, and_fails, or_passes, or_fails, not_passes, not_fails, eq_passes, eq_fails, lt_passes, lt_fails, le_passes, le_fails, eq_z-passes, le_z_passes, any-fails, need-passes, then_passes)
