-- `picking::read_marks` meets its contract: below i each record has its mark.
use Rattle.prepare.proofs.Filling.{Filled, Marked}
use Rattle.picking.specs.Picked.{is_read}
use Rattle.picking.proofs.read_marks.Given as goal

abbrev pub invariant-loop-i : goal.invariant-loop-i
invariant-loop-i l = Filled (Marked (is_read l.marks l.asked l.rows.row.now l.rows.other.now l.rows.n)) l.i l.out
