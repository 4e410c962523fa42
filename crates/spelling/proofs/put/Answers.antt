-- `spelling::put` meets its contract: past the end nothing, else what there is room for.
use borrow.Author.Rules.{rules}
use Rattle.spelling.proofs.Pieces.{puts_past, puts_front}
use Rattle.spelling.proofs.put.Goals as goal

pub returns-then-text-at : goal.returns-then-text-at
returns-then-text-at c = puts_past c.if-text-at.true

pub returns : goal.returns
returns c = puts_front (search rules) c.min-n.ensures c.copy_from_slice.ensures.after
