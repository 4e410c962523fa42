-- `selectors::walk::fill` meets its contract. The invariant: the numbers of the steps that were looked up stand in the path, and those that are left begin here.
use Prim.Native.Nat.{◌-◌}
use lib.ListN.{length, take}
use Rattle.selectors.specs.Parts.{parts}
use Rattle.selectors.proofs.Filling.{Filling}
use Rattle.selectors.proofs.walk.fill.Given as goal

abbrev pub invariant-loop-count : goal.invariant-loop-count
invariant-loop-count l = Filling l.text (take l.count (parts 10 l.d)) l.path l.at l.k

abbrev pub decreases-loop-count : goal.decreases-loop-count
decreases-loop-count l = length l.text - l.at
