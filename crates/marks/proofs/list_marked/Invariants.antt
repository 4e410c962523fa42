-- `marks::list_marked` meets its contract: what is left to store from the k-th entry on completes the list.
use Prim.Native.Nat.{◌≤◌, ◌-◌}
use Rattle.marks.specs.Marks.{marked}
use Rattle.marks.proofs.Storing.{Filling}
use Rattle.marks.proofs.list_marked.Given as goal

abbrev pub invariant-loop-i : goal.invariant-loop-i
invariant-loop-i l = (h : l.from ≤ l.to) × Filling (marked l.marks) l.to l.from h l.initial.out l.out l.k l.i

abbrev pub decreases-loop-i : goal.decreases-loop-i
decreases-loop-i l = l.to - l.i
