-- `day::row::tally_row` meets its contract: for every row that the chain holds, the walk has come down to `at` and counted those above.
use Rattle.day.specs.Along.{size, there, stands}
use Rattle.day.proofs.Tallying.{Walked}
use Rattle.day.proofs.row.tally_row.Given as goal

abbrev pub invariant-loop-at : goal.invariant-loop-at
invariant-loop-at l = Walked (there l.stretch) (size l.stretch) (stands l.stretch) l.past l.trail.lower.now l.at l.count l.last

abbrev pub decreases-loop-at : goal.decreases-loop-at
decreases-loop-at l = l.at
