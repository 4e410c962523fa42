-- `steps::stacks::latest_below` meets its contract: the way down has passed over none that is below the bound.
use Prim.Native.Nat.{ℕ, ◌-◌, ◌≤◌, ◌<◌}
use mathlib.Core.Path.{◌≡◌}
use mathlib.Core.Bool.{Bool, true}
use Rattle.steps.specs.Stacks.{Stacked, level_at}
use Rattle.steps.proofs.Stacking.{Down}
use Rattle.steps.proofs.stacks.latest_below.Given as goal

abbrev pub invariant-loop-at : goal.invariant-loop-at
invariant-loop-at l = (l.at ≤ l.start)
    × ((member : ℕ → Bool) (n : ℕ) → l.start ≤ n → Stacked member (level_at l.level) n l.below l.leap → (0 < l.start → member (l.start - 1) ≡ true) → Down member (level_at l.level) l.bound l.start l.at)

abbrev pub decreases-loop-at : goal.decreases-loop-at
decreases-loop-at l = l.at
