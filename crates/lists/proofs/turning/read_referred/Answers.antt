-- `lists::turning::read_referred` meets its contract: nothing is asked of a rule that is no reference.
use borrow.Author.Tests.{eqb-true, eq-eqb}
use Rattle.lists.proofs.turning.read_referred.Goals as goal

pub returns-then-r-ne3 : goal.returns-then-r-ne3
returns-then-r-ne3 c = λ doc t k. absurd (c.if-r-ne3.true (eqb-true _ 3 k))

pub mark_read-requires : goal.mark_read-requires
mark_read-requires c = (c.requires.0 (eq-eqb _ 3 c.if-r-ne3.false), c.requires.1)

pub returns : goal.returns
returns c = λ doc t k. c.mark_read.ensures doc t
