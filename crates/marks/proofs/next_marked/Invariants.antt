-- `marks::next_marked` meets its contract: the next marked number from i on is the next one from `from` on.
use mathlib.Core.Path.{◌≡◌}
use Prim.Native.Nat.{◌-◌}
use Rattle.marks.specs.Marks.{marked, after}
use Rattle.marks.proofs.next_marked.Given as goal

abbrev pub invariant-loop-i : goal.invariant-loop-i
invariant-loop-i l = after (marked l.marks) l.i l.to ≡ after (marked l.marks) l.from l.to
