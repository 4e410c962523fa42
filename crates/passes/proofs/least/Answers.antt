-- `passes::least` meets its contract: the first record that has a key and is ever present has the least place.
use native.Mathlib.Omega.{arith}
use Rattle.passes.proofs.Nevers.{never_none, never_more, never_end, never_hit}
use Rattle.passes.proofs.least.Goals as goal
use Rattle.passes.proofs.least.Goals.{then-index-room+else-a-spans, else-index-room}

pub loop-number-init : goal.loop-number-init
loop-number-init c = never_none _ _ _ _ _

pub returns-then-a-spans : goal.returns-then-a-spans
returns-then-a-spans c =
    never_hit _ _ _ _ _ _ c.loop-number.invariant c.requires.rising (omega arith) _ c.index-x.ensures

pub loop-number-preserved : goal.loop-number-preserved
loop-number-preserved c =
    let s = c.loop-number.invariant in
    elim c.if-index-room.branch [
      | then-index-room+else-a-spans w ↦ never_more _ _ _ _ _ _ s _ c.index-x.ensures (λ r. w.if-a-spans.false)
      | else-index-room w ↦ never_more _ _ _ _ _ _ s _ c.index-x.ensures (λ r. absurd (omega arith))
    ]

pub returns : goal.returns
returns c = never_end _ _ _ _ _ _ c.loop-number.invariant (omega arith) _
