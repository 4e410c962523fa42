-- `picking::pick` meets its contract: of the first entries those that are marked stand in front.
use Rattle.marks.specs.Marks.{marked}
use Rattle.picking.specs.Picked.{Picked}
use Rattle.picking.proofs.pick.Given as goal

abbrev pub invariant-loop-r : goal.invariant-loop-r
invariant-loop-r l = Picked (marked l.marks) l.order l.r-index l.out l.k
