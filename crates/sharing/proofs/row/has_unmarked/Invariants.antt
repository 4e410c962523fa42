-- `sharing::row::has_unmarked` meets its contract: for every row that the chain holds, a value that is not marked is still to be found at `at` or below.
use mathlib.Core.Bool.{◌&&◌, not}
use Rattle.marks.specs.Marks.{marked}
use Rattle.day.specs.Along.{size, there, stands}
use Rattle.sharing.proofs.Searching.{Searched}
use Rattle.sharing.proofs.row.has_unmarked.Given as goal

abbrev pub invariant-loop-at : goal.invariant-loop-at
invariant-loop-at l = Searched (size l.stretch) l.past l.trail.lower.now (λ f. there l.stretch f && not (marked l.seen (stands l.stretch f))) l.at

abbrev pub decreases-loop-at : goal.decreases-loop-at
decreases-loop-at l = l.at
