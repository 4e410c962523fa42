-- `picking::lay_high` meets its contract: each place laid out is the one that `places::high` says.
use borrow.Author.Rules.{rules}
use Rattle.picking.proofs.lay_high.Goals as goal

pub returns : goal.returns
returns c = (c.lay.ensures.0, λ j h. search (rules, c.lay.ensures.1 j h))
