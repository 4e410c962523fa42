-- A walk down the chain of a row finds whether one of the row passes.
use mathlib.Core.Path.{◌≡◌, refl, sym, ◌∙◌}
use mathlib.Core.Bool.{Bool, true, false, ◌&&◌, not, or-false}
use mathlib.Core.List.{List}
use Prim.Native.Nat.{ℕ, ◌-◌, ◌≤◌, ◌<◌}
use native.Mathlib.Omega.{arith}
use lib.ListN.{length, get_or}
use Rattle.marks.specs.Marks.{marked}
use Rattle.day.specs.Row.{Chain}
use Rattle.sharing.specs.Row.{some_of, Room}
use Rattle.sharing.proofs.Descent.{Down, none_left, all_left, stepped, one-there, down_start, down_next}

module _ (n past : ℕ) (lower : List ℕ) (ask : ℕ → Bool) where
  -- for every row that the chain holds, the walk has come down to `at`, and what passes is still to be found
  abbrev pub Searched : ℕ → Type 0
  Searched at = Down n past lower at × ((row : ℕ → Bool) → Chain row n past lower → some_of at row ask ≡ some_of n row ask)

  module _ (some : (row : ℕ → Bool) × Chain row n past lower) where
    pub searched_start : Searched past
    searched_start = (down_start n past lower some, λ row ch. all_left n past lower row ch ask)

    pub searched_next : (at : ℕ) → Searched at → 0 < at → (next : ℕ) → next ≡ get_or lower (at - 1) 0 → ask (at - 1) ≡ false → Searched next
    searched_next at s h next step z = (
      down_next n past lower some at s.0 h next step,
      λ row ch. sym (stepped n past lower at s.0 h next step row ch ask ∙ rw z (or-false (some_of next row ask))) ∙ s.1 row ch,
    )

  module _ (at : ℕ) (s : Searched at) (row : ℕ → Bool) (ch : Chain row n past lower) where
    pub searched_hit : 0 < at → ask (at - 1) ≡ true → true ≡ some_of n row ask
    searched_hit h y = sym (one-there n past lower at s.0 h _ refl row ch ask y) ∙ s.1 row ch

    pub searched_end : at ≤ 0 → false ≡ some_of n row ask
    searched_end h = sym (none_left row ask at h) ∙ s.1 row ch

-- the code's test of one record, with its representative: not marked
pub unmarked_tested : (a b : Bool) (marks : List ℕ) (x y : ℕ) (u : Bool) → a ≡ b → x ≡ y → a && not (marked marks x) ≡ u → b && not (marked marks y) ≡ u
unmarked_tested a b marks x y u e i h = rw (sym e, sym i) h

-- the representative of a record of the row has its entry in a column
pub entry : (n : ℕ) (lower ends reps column : List ℕ) → Room n lower ends reps column → (at : ℕ) → at ≤ n → 0 < at → (x : ℕ) → x ≡ get_or reps (at - 1) 0 → (x < n) × (x < length column)
entry n lower ends reps column s at l h x e =
    let low : x < n = omega (arith, s.rep_low (at - 1) (omega arith)) in
    (low, omega (arith, s.column_room))
