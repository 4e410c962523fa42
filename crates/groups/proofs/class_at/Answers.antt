-- `groups::class_at` meets its contract, for a version and for none.
use Rattle.groups.proofs.Gathering.{class-here, class-none}
use Rattle.groups.proofs.class_at.Goals as goal

pub returns-then-at-n : goal.returns-then-at-n
returns-then-at-n c = let a = c.args in class-here a.groups.now a.n a.v _ c.index-at.ensures c.if-at-n.true

pub returns : goal.returns
returns c = let a = c.args in class-none a.groups.now a.n a.v _ c.index-at.ensures c.if-at-n.false
