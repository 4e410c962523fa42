-- `day::row::tally_row` meets its contract: for every row that the chain holds, the walk has come down to `at` and counted those above.
use mathlib.Core.Path.{sym, ◌∙◌}
use Rattle.day.proofs.Tallying.{walked_start, walked_less, walked_skip, walked_more, counted-end}
use Rattle.day.proofs.row.tally_row.Goals as goal
use Rattle.day.proofs.row.tally_row.Goals.{then-has, else-has}

pub loop-at-init : goal.loop-at-init
loop-at-init c = walked_start _ _ _ _ _ c.requires.chain _

pub loop-at-smaller : goal.loop-at-smaller
loop-at-smaller c =
    walked_less _ _ _ _ _ c.requires.chain _ _ _ c.loop-at.invariant c.loop-at-test.true _ c.index-at.ensures

pub loop-at-preserved : goal.loop-at-preserved
loop-at-preserved c =
    let s = c.loop-at in
    let h = c.loop-at-test.true in
    let is = c.has.ensures in
    elim c.if-has.branch [
      | then-has w ↦ walked_more _ _ _ _ _ c.requires.chain _ _ _ s.invariant h _ c.index-at.ensures (sym is ∙ w.if-has.true) _ _ w.count-is (w.last-is ∙ w.index-last.ensures)
      | else-has w ↦ walked_skip _ _ _ _ _ c.requires.chain _ _ _ s.invariant h _ c.index-at.ensures (sym is ∙ w.if-has.false) _ _ w.count-is w.last-is
    ]

pub returns : goal.returns
returns c = λ row h. counted-end _ _ _ _ _ _ _ (c.loop-at.invariant.1 row h) c.loop-at-test.false
