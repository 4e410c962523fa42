-- `steps::stacks::onward` meets its contract, at each of its three answers.
use Rattle.steps.proofs.Stacking.{on_none, on_step, on-leap}
use Rattle.steps.proofs.stacks.onward.Goals as goal

pub returns-then-leap-eq0 : goal.returns-then-leap-eq0
returns-then-leap-eq0 c = on_none _ _ _ _ c.if-leap-eq0.true

pub returns-then-level-index : goal.returns-then-level-index
returns-then-level-index c =
    on_step _ _ _ _ c.if-leap-eq0.false _ c.index.ensures c.if-level-index.true

pub returns : goal.returns
returns c =
    on-leap _ _ _ _ c.if-leap-eq0.false _ c.index.ensures c.if-level-index.false
