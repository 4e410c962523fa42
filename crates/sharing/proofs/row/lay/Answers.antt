-- `sharing::row::lay` meets its contract: for every row that the chain holds, the walk has come down to `at` and marked those above.
use mathlib.Core.Path.{sym, ◌∙◌}
use native.Mathlib.Omega.{arith}
use Rattle.sharing.proofs.Searching.{entry}
use Rattle.sharing.proofs.Descent.{stepped, down_start, down_less, down_next}
use Rattle.sharing.proofs.Laying.{layed_start, layed_skip, layed_set, layed_end}
use Rattle.sharing.proofs.row.lay.Goals as goal
use Rattle.sharing.proofs.row.lay.Goals.{then-has, else-has}

pub loop-at-init : goal.loop-at-init
loop-at-init c =
    (down_start _ _ _ c.requires.chain, layed_start _ _ _ _ _ _ _)

pub bounds-seen-y : goal.bounds-seen-y
bounds-seen-y c =
    let s = c.loop-at in
    omega (arith, (entry _ _ _ _ _ c.requires.rooms _ s.invariant.0.0 c.loop-at-test.true _ c.index-y.ensures).1, s.invariant.1.size)

pub loop-at-smaller : goal.loop-at-smaller
loop-at-smaller c =
    down_less _ _ _ c.requires.chain _ c.loop-at.invariant.0 c.loop-at-test.true _ c.index-at.ensures

pub loop-at-preserved : goal.loop-at-preserved
loop-at-preserved c =
    let p = c.requires in
    let s = c.loop-at in
    let h = c.loop-at-test.true in
    let is = c.has.ensures in
    let down = stepped _ _ _ _ s.invariant.0 h _ c.index-at.ensures in (
      down_next _ _ _ p.chain _ s.invariant.0 h _ c.index-at.ensures,
      elim c.if-has.branch [
        | then-has w ↦ layed_set _ _ _ _ _ _ _ _ _ s.invariant.1 _ down (sym is ∙ w.if-has.true) _ w.index-y.ensures (omega (arith, (entry _ _ _ _ _ p.rooms _ s.invariant.0.0 h _ w.index-y.ensures).1, s.invariant.1.size)) _ w.seen-is
        | else-has w ↦ layed_skip _ _ _ _ _ _ _ _ _ s.invariant.1 _ down (sym is ∙ w.if-has.false) _ w.seen-is
      ],
    )

pub returns : goal.returns
returns c = λ row ch. layed_end _ _ _ _ _ _ _ _ _ c.loop-at.invariant.1 c.loop-at-test.false row ch
