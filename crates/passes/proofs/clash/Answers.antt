-- `passes::clash` meets its contract: of two that clash, one is a hit, or is to come.
use native.Mathlib.Omega.{arith}
use Rattle.passes.proofs.Clashing.{sweep_none, sweep_skip, sweep_keep, sweep_raise, sweep_hit, sweep_end}
use Rattle.passes.proofs.clash.Goals as goal
use Rattle.passes.proofs.clash.Goals.{then-k-room+then-a-b+else-a-t+then-t-b, then-k-room+then-a-b+else-a-t+else-t-b, then-k-room+else-a-b, else-k-room}

pub loop-number-init : goal.loop-number-init
loop-number-init c = sweep_none _ _ _ _ _ _ _ _

pub returns-then-a-t : goal.returns-then-a-t
returns-then-a-t c =
    sweep_hit _ _ _ _ _ _ c.requires.rising _ _ _ c.loop-number.invariant (omega arith) _ c.index-x.ensures

pub loop-number-preserved : goal.loop-number-preserved
loop-number-preserved c =
    let p = c.requires.rising in
    let s = c.loop-number.invariant in
    elim c.if-k-room.branch [
      | then-k-room+then-a-b+else-a-t+then-t-b w ↦ rw (w.top-is, w.holder-is) (sweep_raise _ _ _ _ _ _ p _ _ _ s (omega arith) _ c.index-x.ensures _ c.index-k.ensures (omega arith) w.if-a-t.false (omega arith) (omega arith) w.if-t-b.true)
      | then-k-room+then-a-b+else-a-t+else-t-b w ↦ rw (w.top-is, w.holder-is) (sweep_keep _ _ _ _ _ _ p _ _ _ s (omega arith) _ c.index-x.ensures _ c.index-k.ensures (omega arith) w.if-a-t.false (omega arith) w.if-t-b.false)
      | then-k-room+else-a-b w ↦ rw (w.top-is, w.holder-is) (sweep_skip _ _ _ _ _ _ p _ _ _ s (omega arith) _ c.index-x.ensures (λ r. w.if-a-b.false))
      | else-k-room w ↦ rw (w.top-is, w.holder-is) (sweep_skip _ _ _ _ _ _ p _ _ _ s (omega arith) _ c.index-x.ensures (λ r. absurd (omega arith)))
    ]

pub returns : goal.returns
returns c = sweep_end _ _ _ _ _ _ c.requires.rising _ _ _ c.loop-number.invariant (omega arith) _
