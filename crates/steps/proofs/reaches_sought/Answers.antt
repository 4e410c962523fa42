-- `steps::reaches_sought` meets its contract: the chains along the order, where each search starts, and what the searches settle.
use mathlib.Core.Path.{◌∙◌}
use native.Mathlib.Omega.{arith}
use mir.Facts.{to_z-of_z}
use Rattle.steps.proofs.Settling.{kinds-placed, closing_rooms, past-within, closing_sweepable, swept_reaches}
use Rattle.steps.proofs.reaches_sought.Goals as goal

pub thread-links-requires : goal.thread-links-requires
thread-links-requires c =
    let p = c.requires in
    let n = closing_rooms _ _ _ _ _ _ _ _ _ p.2 p.3 in
    (n.0, n.1, n.2, kinds-placed _ _ _ _ _ _ _ _ _ p.2 p.3)

pub sought-start-requires : goal.sought-start-requires
sought-start-requires c =
    let p = c.requires in
    let few = p.3.few in
    closing_sweepable _ _ _ _ _ _ _ _ _ p.2 p.3 _ _ _ c.thread-links.ensures.lower_room (omega (arith, c.lasts-past.ensures.0)) (omega (arith, p.2.periods.begin.size))
    (past-within _ _ _ _ _ _ _ _ _ p.2 p.3 _ _ c.lasts-past.result c.thread-links.ensures c.lasts-past.ensures.1)

pub settle-requires : goal.settle-requires
settle-requires c =
    let p = c.requires in
    let few = p.3.few in (
      closing_sweepable _ _ _ _ _ _ _ _ _ p.2 p.3 _ _ _ c.thread-links.ensures.lower_room (omega arith) (omega (arith, p.2.periods.begin.size))
          (λ f h. omega (arith, c.sought-start.ensures.under f (omega (arith, p.2.value.size)), past-within _ _ _ _ _ _ _ _ _ p.2 p.3 _ _ c.lasts-past.result c.thread-links.ensures c.lasts-past.ensures.1 f h)),
      omega (arith, p.2.rows.room, p.2.value.size),
    )

pub returns : goal.returns
returns c =
    let fl = to_z-of_z c.ranges.low in
    let fh = to_z-of_z c.ranges.high in
    λ doc r held ok flat lo hi.
    swept_reaches doc r _ _ _ _ _ _ _ held ok flat _ _ (fl ∙ lo) (fh ∙ hi) (rw fl c.ranges.low.sfits) (rw fh c.ranges.high.sfits) _ _ _ _ _
    c.thread-links.ensures c.lasts-past.ensures.1 c.sought-start.ensures c.settle.ensures
