-- A walk down the chain of a row: how far it has come, and what of the row is left.
use mathlib.Core.Path.{◌≡◌, sym, ◌∙◌, ap}
use mathlib.Core.Bool.{Bool, true, false, ◌&&◌, ◌||◌}
use mathlib.Core.List.{List}
use Prim.Native.Nat.{ℕ, suc, ◌-◌, ◌≤◌, ◌<◌}
use native.Mathlib.Omega.{arith}
use lib.ListN.{get_or}
use Rattle.meaning.specs.Walk.{any}
use Rattle.meaning.proofs.Basics.{and_l, or_r}
use Rattle.meaning.proofs.Loops.{any_last}
use Rattle.columns.specs.Chains.{past_last}
use Rattle.columns.proofs.Along.{past-low, past-in, along_start}
use Rattle.day.specs.Row.{Chain}
use Rattle.sharing.specs.Row.{some_of}

past-some : (row ask : ℕ → Bool) (t : ℕ) → some_of (past_last row t) row ask ≡ some_of t row ask
unfolding some_of
past-some row ask t = (along_start row (λ f. row f && ask f) (λ f e. and_l (row f) (ask f) e) t).rest

-- at the end nothing is left
pub none_left : (row ask : ℕ → Bool) (at : ℕ) → at ≤ 0 → some_of at row ask ≡ false
unfolding some_of any
none_left row ask at h = let e : at ≡ 0 = omega arith in rw e

module _ (n past : ℕ) (lower : List ℕ) where
  -- for every row that the chain holds, the walk has come down to `at`, one past one of the row, or 0
  abbrev pub Down : ℕ → Type 0
  Down at = (at ≤ n) × ((row : ℕ → Bool) → Chain row n past lower → 0 < at → row (at - 1) ≡ true)

  -- what passes below `at` is the record below it, or passes below `next`
  abbrev pub Steps : ℕ → ℕ → Type 0
  Steps at next = (row : ℕ → Bool) → Chain row n past lower → (ask : ℕ → Bool) → some_of at row ask ≡ (some_of next row ask || ask (at - 1))

  -- at the start all is left
  pub all_left : (row : ℕ → Bool) → Chain row n past lower → (ask : ℕ → Bool) → some_of past row ask ≡ some_of n row ask
  all_left row ch ask = rw ch.last_is (past-some row ask n)

  module _ (at : ℕ) (s : Down at) (h : 0 < at) (next : ℕ) (step : next ≡ get_or lower (at - 1) 0) where
    leads : (row : ℕ → Bool) → Chain row n past lower → next ≡ past_last row (at - 1)
    leads row ch = step ∙ ch.lower_is (at - 1) (omega (arith, s.0)) (s.1 row ch h)

    pub stepped : Steps at next
    unfolding some_of
    stepped row ch ask =
        let up : at ≡ suc (at - 1) = omega arith in
        ap (any (λ f. row f && ask f) 0) up ∙ any_last (λ f. row f && ask f) (at - 1)
        ∙ rw (s.1 row ch h, leads row ch) (ap (λ b. b || ask (at - 1)) (sym (past-some row ask (at - 1))))

    -- the record below passes
    pub one-there : (row : ℕ → Bool) → Chain row n past lower → (ask : ℕ → Bool) → ask (at - 1) ≡ true → some_of at row ask ≡ true
    one-there row ch ask y = stepped row ch ask ∙ or_r (some_of next row ask) (ask (at - 1)) y

  module _ (some : (row : ℕ → Bool) × Chain row n past lower) where
    pub down_start : Down past
    down_start = (omega (arith, some.1.last_is, past-low some.0 n), λ row ch. rw ch.last_is (past-in row n))

    module _ (at : ℕ) (s : Down at) (h : 0 < at) (next : ℕ) (step : next ≡ get_or lower (at - 1) 0) where
      pub down_less : next < at
      down_less = omega (arith, leads at s h next step some.0 some.1, past-low some.0 (at - 1))

      pub down_next : Down next
      down_next = (omega (arith, down_less, s.0), λ row ch. rw (leads at s h next step row ch) (past-in row (at - 1)))
