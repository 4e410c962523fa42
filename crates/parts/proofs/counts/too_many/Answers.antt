-- `parts::counts::too_many` meets its contract: where no key has more in all, none has at a place.
use Rattle.parts.proofs.Using.{none-by}
use Rattle.parts.proofs.counts.too_many.Goals as goal

pub returns-then-not-crowded : goal.returns-then-not-crowded
returns-then-not-crowded c = none-by _ _ _ _ _ _ (c.crowded.ensures c.if-not-crowded.true)
