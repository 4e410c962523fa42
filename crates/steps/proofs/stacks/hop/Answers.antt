-- `steps::stacks::hop` meets its contract, at each of its two answers.
use Rattle.steps.proofs.Stacking.{hop-none, hop-some}
use Rattle.steps.proofs.stacks.hop.Goals as goal

pub returns-then-place-eq0 : goal.returns-then-place-eq0
returns-then-place-eq0 c = hop-none _ _ c.if-place-eq0.true

pub returns : goal.returns
returns c = hop-some _ _ c.if-place-eq0.false _ c.index.ensures
