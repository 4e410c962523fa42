-- `steps::stepped_in` meets its contract: the walk has come to record f, and nothing below it offends in the window.
use Prim.Native.Nat.{◌-◌}
use lib.ListN.{length}
use Rattle.steps.proofs.Skipping.{Looked}
use Rattle.steps.proofs.stepped_in.Given as goal

abbrev pub invariant-loop-f : goal.invariant-loop-f
invariant-loop-f l = Looked l.begin l.end l.reach l.from l.to l.f

abbrev pub decreases-loop-f : goal.decreases-loop-f
decreases-loop-f l = length l.begin - l.f
