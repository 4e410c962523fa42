-- `passes::crowded` meets its contract: every record is counted, and no count is above what is allowed.
use Rattle.passes.proofs.Crowding.{Counted}
use Rattle.passes.proofs.crowded.Given as goal

abbrev pub invariant-loop-number : goal.invariant-loop-number
invariant-loop-number l = Counted l.key l.room l.most l.number-index l.tally
