-- `plain::days::first_failing` meets its contract: no day before this one has an offender, and the marks kept are those of the day before.
use mathlib.Core.Path.{refl}
use native.Mathlib.Omega.{arith}
use borrow.Author.Rules.{rules}
use Rattle.plain.proofs.Daily.{walking_start, walking_before, walking_end, walking_hit, walking_next}
use Rattle.plain.proofs.days.first_failing.Goals as goal

pub loop-day-init : goal.loop-day-init
loop-day-init c = (refl, λ doc q laid linked chosen. walking_start doc q _ _ (omega (arith, laid.judgeable.few)))

pub present_on-present-requires : goal.present_on-present-requires
present_on-present-requires c = let p = c.requires.1 in (p.0, p.2)

pub found_on-found-requires : goal.found_on-found-requires
found_on-found-requires c =
    let p = c.requires.1 in
    let marks = c.present_on-present.ensures p.0 p.2 in
    (c.requires.0, (p.0, p.1, p.3, p.4, omega (arith, c.loop-day.invariant.0, p.1.judgeable.few), marks.room))

pub returns-in-Some : goal.returns-in-Some
returns-in-Some c doc q laid linked chosen =
    let w = c.loop-day.invariant.1 doc q laid linked chosen in
    let m = c.present_on-present.ensures doc linked in
    walking_hit doc q _ _ _ w _ m _ (c.found_on-found.ensures doc q laid chosen m.room (walking_before doc q _ _ _ w)) c.loop-day-test.true c.in-Some.is

pub loop-day-preserved : goal.loop-day-preserved
loop-day-preserved c = (
  search rules,
  λ doc q laid linked chosen.
      let w = c.loop-day.invariant.1 doc q laid linked chosen in
      let m = c.present_on-present.ensures doc linked in
      walking_next doc q _ _ _ w _ m _ (c.found_on-found.ensures doc q laid chosen m.room (walking_before doc q _ _ _ w)) c.in_default.is,
)

pub returns : goal.returns
returns c doc q laid linked chosen = walking_end doc q _ _ _ (c.loop-day.invariant.1 doc q laid linked chosen) c.loop-day-test.false
