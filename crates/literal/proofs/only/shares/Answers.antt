-- `literal::only::shares` meets its contract, with an entry and without.
use Rattle.literal.proofs.Alone.{shares-none, shares-one}
use Rattle.literal.proofs.only.shares.Goals as goal

pub returns-then-past-eq0 : goal.returns-then-past-eq0
returns-then-past-eq0 c = λ doc w. shares-none doc _ _ w _ _ _ _ c.index-past.ensures c.if-past-eq0.true

pub returns : goal.returns
returns c = λ doc w. shares-one doc _ _ w _ _ _ _ c.index-past.ensures c.if-past-eq0.false _ (c.same_value.ensures doc w)
