-- `pieces::cut` meets its contract: the records from i on are done.
use Rattle.pieces.proofs.Cutting.{Cutting}
use Rattle.pieces.proofs.cut.Given as goal

abbrev pub invariant-loop-i : goal.invariant-loop-i
invariant-loop-i l = Cutting l.order l.spans.key.now l.spans.lo.now l.n l.i l.initial.to l.next l.to
