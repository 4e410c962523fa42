-- `pieces::Rows::rank` meets its contract.
use native.Mathlib.Omega.{arith}
use borrow.Author.Rules.{rules}
use Rattle.pieces.proofs.Ranking.{ranked_first, ranked_later}
use Rattle.pieces.proofs.Rows.rank.Goals as goal

pub returns-then-t-b : goal.returns-then-t-b
returns-then-t-b c = ranked_first _ _ _ _ _ _ (search rules) (search rules) (search rules) c.if-t-b.true

pub returns : goal.returns
returns c = ranked_later _ _ _ _ _ _ _ (search rules) (omega arith) c.max.ensures
