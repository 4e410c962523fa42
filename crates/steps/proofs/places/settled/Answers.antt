-- `steps::places::settled` meets its contract, at each of its four answers.
use Rattle.steps.proofs.Placing.{settled_none, settled_text, settled_free, settled_parted}
use Rattle.steps.proofs.places.settled.Goals as goal

pub returns-then-n-index : goal.returns-then-n-index
returns-then-n-index c = settled_none _ _ _ _ _ _ c.index.ensures c.if-n-index.true

pub returns-then-vkind-ne1 : goal.returns-then-vkind-ne1
returns-then-vkind-ne1 c = settled_text _ _ _ _ _ _ c.index.ensures c.if-n-index.false c.if-vkind-ne1.true

pub returns-then-parting-eq0 : goal.returns-then-parting-eq0
returns-then-parting-eq0 c = settled_free _ _ _ _ _ _ c.index.ensures c.if-n-index.false c.if-vkind-ne1.false c.if-parting-eq0.true

pub returns : goal.returns
returns c = settled_parted _ _ _ _ _ _ c.index.ensures c.if-n-index.false c.if-vkind-ne1.false c.if-parting-eq0.false
