-- `steps::spans::calm` meets its contract: what lies in a narrow span lies near each other.
use mir.Facts.{to_z-of_z}
use Rattle.steps.proofs.Calming.{calm_told}
use Rattle.steps.proofs.spans.calm.Goals as goal

pub returns : goal.returns
returns c =
    let f = c.ranges in
    λ t. calm_told _ _ _ _ _ _ _ _ _ c.span_of-span.ensures f.low.sfits f.high.sfits (to_z-of_z f.low) (to_z-of_z f.high) _ c.is_narrow.ensures t
