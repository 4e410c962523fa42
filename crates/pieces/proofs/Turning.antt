-- Which of the next demand and the next supply is taken, and when none is left.
use mathlib.Core.Path.{◌≡◌, refl}
use mathlib.Core.Bool.{Bool, true, false, ◌||◌}
use mathlib.Core.List.{List}
use mathlib.Core.Logic.{⊎_elim}
use Prim.Native.Nat.{ℕ, ◌≤◌, ◌<◌}
use native.Mathlib.Omega.{arith}
use lib.Dec.{leb, ltb}
use lib.ListN.{length}
use borrow.Author.Tests.{leb-false, ltb-true, ltb-false}
use Rattle.meaning.proofs.Basics.{clear, or_cases}
use Rattle.passes.specs.Passes.{at}
use Rattle.pieces.specs.Merged.{Turn}

module _ (order lo : List ℕ) (i : ℕ) (supplies from : List ℕ) (j : ℕ) where
  pub turn_demand : i < length order → Turn order lo i supplies from j true
  turn_demand h = record { demand = λ e. h; supply = λ e. absurd (clear refl e); no_later = λ e l. absurd (clear refl e) }

  pub turn_supply : j < length supplies → length order ≤ i → Turn order lo i supplies from j false
  turn_supply h g = record { demand = λ e. absurd (clear e refl); supply = λ e. h; no_later = λ e l. absurd (omega arith) }

  pub turn_either : i < length order → j < length supplies → (x y : ℕ) → x ≡ at order i → y ≡ at supplies j → Turn order lo i supplies from j (leb (at lo x) (at from y))
  turn_either h g x y ex ey =
      record {
        demand = λ e. h;
        supply = λ e. g;
        no_later = λ e l. let z : at from y < at lo x = leb-false (at lo x) (at from y) e in rw (← ex, ← ey) (omega arith);
      }

-- one is left; so it is a demand, if no supply is
pub left_over : (i m j s : ℕ) → (ltb i m || ltb j s) ≡ true → s ≤ j → i < m
left_over i m j s e l = ⊎_elim (ltb-true i m) (λ t. let z = ltb-true j s t in absurd (omega arith)) (or_cases (ltb i m) (ltb j s) e)

-- none is left, so no demand is
pub all_done : (i m j s : ℕ) → (ltb i m || ltb j s) ≡ false → m ≤ i
all_done i m j s e = ltb-false i m (first (ltb i m) (ltb j s) e)
  where
    first : (a b : Bool) → (a || b) ≡ false → a ≡ false
    first true b p = p
    first false b p = refl
