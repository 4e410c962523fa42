-- `counting::item::weigh` meets its contract: each way out is one law.
use Rattle.counting.proofs.Weighing.{weighed_again, weighed_new}
use borrow.Author.Rules.{rules}
use Rattle.counting.proofs.item.weigh.Goals as goal

pub returns-then-distinct-seen : goal.returns-then-distinct-seen
returns-then-distinct-seen c = weighed_again _ _ _ _ _ c.index-x.ensures c.if-distinct-seen.true

pub returns : goal.returns
returns c = weighed_new _ _ _ _ _ c.index-x.ensures c.if-distinct-seen.false (search rules)
