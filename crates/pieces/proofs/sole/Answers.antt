-- `pieces::sole` meets its contract: stretches that were drawn and then cut.
use borrow.Author.Rules.{rules}
use Rattle.pieces.proofs.Joining.{stretched}
use Rattle.pieces.proofs.sole.Goals as goal

pub returns : goal.returns
returns c =
    stretched _ _ _ _ _ _ _ _ _ c.draw-stretches.ensures c.cut.ensures (search rules) (search rules) (search rules)
