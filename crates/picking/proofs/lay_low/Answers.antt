-- `picking::lay_low` meets its contract: each place laid out is the one that `places::low` says.
use borrow.Author.Rules.{rules}
use Rattle.picking.proofs.lay_low.Goals as goal

pub returns : goal.returns
returns c = (c.lay.ensures.0, λ j h. search (rules, c.lay.ensures.1 j h))
