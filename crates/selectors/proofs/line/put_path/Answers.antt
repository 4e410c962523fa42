-- `selectors::line::put_path` meets its contract: what was put so far are the first k numbers, each behind a space.
use borrow.Author.Rules.{rules}
use Rattle.selectors.proofs.Spacing.{pathing_none, pathing_more, pathing_all}
use Rattle.selectors.proofs.line.put_path.Goals as goal

pub loop-number-init : goal.loop-number-init
loop-number-init c = pathing_none _ _ _

pub loop-number-preserved : goal.loop-number-preserved
loop-number-preserved c = pathing_more c.loop-number.invariant (search rules) (rw c.from.ensures at c.put_next-to.ensures)

pub returns : goal.returns
returns c = pathing_all c.loop-number.invariant (search rules)
