-- `parts::counts::too_few` meets its contract: fewer than none are nowhere, and fewer than one are none.
use Rattle.parts.proofs.Using.{few-none}
use Rattle.parts.proofs.counts.too_few.Goals as goal

pub returns-then-low-eq0 : goal.returns-then-low-eq0
returns-then-low-eq0 c = rw c.if-low-eq0.true (few-none _ _ _ _ _ _ _ _)
