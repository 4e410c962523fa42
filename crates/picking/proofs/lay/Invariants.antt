-- `picking::lay` meets its contract: those of the first records of the order are laid out.
use Prim.Native.Nat.{ℕ, ◌<◌}
use Rattle.passes.specs.Passes.{at}
use Rattle.picking.proofs.lay.Given as goal

abbrev pub invariant-loop-x : goal.invariant-loop-x
invariant-loop-x g l = (j : ℕ) → j < l.x-index → goal.F-post g l.place (at l.days (at l.order j)) (at l.out (at l.order j))
