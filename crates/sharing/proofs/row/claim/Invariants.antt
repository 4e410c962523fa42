-- `sharing::row::claim` meets its contract: for every row that the chain holds, the answer hangs on what is left of the row at `at` or below.
use Rattle.day.specs.Along.{size, there, stands}
use Rattle.sharing.proofs.Claiming.{Claiming}
use Rattle.sharing.proofs.row.claim.Given as goal

abbrev pub invariant-loop-at : goal.invariant-loop-at
invariant-loop-at l = Claiming (there l.stretch) (size l.stretch) (stands l.stretch) l.needy l.mine l.past l.trail.lower.now l.initial.owner l.at l.bare l.owner

abbrev pub decreases-loop-at : goal.decreases-loop-at
decreases-loop-at l = l.at
