-- `steps::spans::widened` meets its contract: only a number with a row widens the span.
use native.Mathlib.Omega.{arith}
use mir.Facts.{to_z-of_z}
use Rattle.steps.proofs.Calming.{widened_by}
use Rattle.steps.proofs.spans.widened.Goals as goal

pub returns : goal.returns
returns c =
    let f = c.ranges.value in
    widened_by _ _ _ (to_z-of_z f) f.sfits c.raised-x.ensures.0 (omega arith) (omega arith) (omega arith) (omega arith) (λ m. omega arith)
