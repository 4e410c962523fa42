-- `marks::count_marked` meets its contract: what is counted so far and what is left make up the whole.
use Prim.Native.Nat.{◌≤◌, ◌-◌}
use Rattle.marks.specs.Marks.{marked}
use Rattle.marks.proofs.Storing.{Counting}
use Rattle.marks.proofs.count_marked.Given as goal

abbrev pub invariant-loop-i : goal.invariant-loop-i
invariant-loop-i l = (l.from ≤ l.to) × Counting (marked l.marks) l.to l.from l.n l.i

abbrev pub decreases-loop-i : goal.decreases-loop-i
decreases-loop-i l = l.to - l.i
