-- `selectors::profile::bad_place` meets its contract. The invariant: what is left of the text leads to the answer on the whole.
use Rattle.selectors.proofs.Phases.{scanning_none, scanning_stuck, scanning_more, scanning_short, scanning_all}
use Rattle.selectors.proofs.profile.bad_place.Goals as goal

pub loop-i-init : goal.loop-i-init
loop-i-init c = scanning_none _

pub returns-then-next-eq-STUCK : goal.returns-then-next-eq-STUCK
returns-then-next-eq-STUCK c =
    scanning_stuck c.loop-i.invariant c.loop-i-test.true c.after-next.ensures c.if-next-eq-STUCK.true

pub loop-i-preserved : goal.loop-i-preserved
loop-i-preserved c =
    scanning_more c.loop-i.invariant c.loop-i-test.true c.after-next.ensures c.if-next-eq-STUCK.false c.left_after-left.ensures

pub returns-then-phase-eq-AHEAD : goal.returns-then-phase-eq-AHEAD
returns-then-phase-eq-AHEAD c = scanning_short c.loop-i.invariant c.loop-i-test.false c.if-phase-eq-AHEAD.true

pub returns : goal.returns
returns c = scanning_all c.loop-i.invariant c.loop-i-test.false c.if-phase-eq-AHEAD.false
