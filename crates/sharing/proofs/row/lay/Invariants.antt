-- `sharing::row::lay` meets its contract: for every row that the chain holds, the walk has come down to `at` and marked those above.
use Rattle.day.specs.Along.{size, there, stands}
use Rattle.sharing.proofs.Descent.{Down}
use Rattle.sharing.proofs.Laying.{Layed}
use Rattle.sharing.proofs.row.lay.Given as goal

abbrev pub invariant-loop-at : goal.invariant-loop-at
invariant-loop-at l = Down (size l.stretch) l.past l.trail.lower.now l.at × Layed (there l.stretch) (size l.stretch) (stands l.stretch) 1 l.past l.trail.lower.now l.initial.seen l.at l.seen

abbrev pub decreases-loop-at : goal.decreases-loop-at
decreases-loop-at l = l.at
