-- `judging::judge_columns` meets its contract: its arrays, of either size, have room for each record.
use native.Mathlib.Omega.{arith}
use borrow.Author.Rules.{rules}
use Rattle.prepare.proofs.Holding.{tree-few}
use Rattle.judging.proofs.judge_columns.Goals as goal

pub judge_in-requires : goal.judge_in-requires
judge_in-requires c =
    let p = c.requires in
    (p.0, p.1, (omega arith, search rules), p.2)

pub judge_in-requires-2 : goal.judge_in-requires-2
judge_in-requires-2 c =
    let p = c.requires in
    let g = p.2 in
    (p.0, p.1, (tree-few _ _ _ (g.0, g.1.known.tree, g.1.known.judgeable), search rules), g)
