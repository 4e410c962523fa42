-- `document::clash::clashes_lower` meets its contract: what is left is to find a lower item below `at` that item i clashes with.
use Rattle.columns.specs.Chains.{Twins}
use Rattle.twins.specs.Clear.{unvalued}
use Rattle.document.proofs.Lowering.{Lowered}
use Rattle.document.proofs.clash.clashes_lower.Given as goal

abbrev pub invariant-loop-past_j : goal.invariant-loop-past_j
invariant-loop-past_j l = (tw : Twins (unvalued l.of.records) l.twin) × Lowered (unvalued l.of.records) tw.key l.i l.past_j

abbrev pub decreases-loop-past_j : goal.decreases-loop-past_j
decreases-loop-past_j l = l.past_j
