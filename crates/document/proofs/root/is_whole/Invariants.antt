-- `document::root::is_whole` meets its contract: each record is skipped, goes on from the last end, or ends the walk.
use Rattle.document.specs.Steady.{periods_in}
use Rattle.document.proofs.Run.{Run}
use Rattle.document.proofs.root.is_whole.Given as goal

abbrev pub invariant-loop-i : goal.invariant-loop-i
invariant-loop-i l = Run (periods_in l.records) l.last l.i
