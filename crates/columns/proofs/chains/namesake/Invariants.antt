-- `columns::chains::namesake` meets its contract: what is left is to find an item below `past-j` with the number of i.
use Rattle.columns.specs.Chains.{Twins, numbered}
use Rattle.columns.proofs.Namesakes.{Falling}
use Rattle.columns.proofs.chains.namesake.Given as goal

abbrev pub invariant-loop-past_j : goal.invariant-loop-past_j
invariant-loop-past_j l = (tw : Twins (numbered l.kind l.item) l.twin) × Falling (numbered l.kind l.item) tw.key l.i l.past_j

abbrev pub decreases-loop-past_j : goal.decreases-loop-past_j
decreases-loop-past_j l = l.past_j
