-- `steps::places::last_of` meets its contract, for a class and for none.
use Rattle.steps.proofs.Placing.{last_none, last_some}
use Rattle.steps.proofs.places.last_of.Goals as goal

pub returns-then-k-last : goal.returns-then-k-last
returns-then-k-last c = last_some c.args.last.now _ _ c.index-k.ensures

pub returns : goal.returns
returns c = last_none c.args.last.now _ _ c.index-k.ensures c.if-k-last.false
