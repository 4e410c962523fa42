-- A walk from one chosen record to the next that looks for the first bad one.
use mathlib.Core.Path.{◌≡◌, sym, ◌∙◌, ap}
use mathlib.Core.Logic.{⊎_elim}
use mathlib.Core.Bool.{Bool, true, false}
use Prim.Native.Nat.{ℕ, suc, ◌≤◌, ◌<◌}
use native.Mathlib.Nat.{eq-or-lt_of_le}
use native.Mathlib.Omega.{arith}
use Rattle.std.specs.Prelude.{Some, None}
use Rattle.meaning.specs.Walk.{first}
use Rattle.meaning.proofs.Basics.{le_or_lt}
use Rattle.meaning.proofs.Walks.{first-at, first-none}
use Rattle.marks.proofs.After.{Next}

-- the walk has come to record v, a chosen one or the end
pub record Come (n : ℕ) (chosen : ℕ → Bool) (v : ℕ) : Type 0 where
  pub most : v ≤ n
  pub is_chosen : v < n → chosen v ≡ true

module _ (n : ℕ) (chosen : ℕ → Bool) where
  pub come_to : (i v : ℕ) → Next chosen n i v → Come n chosen v
  come_to i v to = record { most = to.to; is_chosen = to.passes }

  module _ (bad : ℕ → Bool) where
    -- no record below v is bad
    abbrev pub Clean : ℕ → Type 0
    Clean v = (u : ℕ) → u < v → bad u ≡ false

    pub found_at : (v : ℕ) → v < n → Clean v → bad v ≡ true → Some v ≡ first bad 0 n
    found_at v h s y = sym (first-at bad v 0 n (omega arith) (omega arith) y (λ u a b. s u b))

    pub found_none : (v : ℕ) → n ≤ v → Clean v → None ≡ first bad 0 n
    found_none v h s = sym (first-none bad 0 n (λ u a b. s u (omega arith)))

    -- where only chosen ones are
    module _ (only : (u : ℕ) → chosen u ≡ false → bad u ≡ false) where
      pub clean_start : (start : ℕ) → Next chosen n 0 start → Clean start
      clean_start start to u h = only u (to.before u (omega arith) h)

      pub clean_step : (v : ℕ) → Clean v → bad v ≡ false → (next : ℕ) → Next chosen n (suc v) next → Clean next
      clean_step v s z next to u b =
          ⊎_elim
          (λ (a : u ≤ v). ⊎_elim (λ q. ap bad q ∙ z) (λ (l : u < v). s u l) (eq-or-lt_of_le a))
          (λ (l : v < u). only u (to.before u (omega arith) b))
          (le_or_lt u v)
