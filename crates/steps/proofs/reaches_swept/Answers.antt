-- `steps::reaches_swept` meets its contract: where the rows are calm no step is wrong, and elsewhere the searches tell.
use mathlib.Core.Path.{◌∙◌}
use mir.Facts.{to_z-of_z}
use Rattle.steps.proofs.Calming.{calm_reaches}
use Rattle.steps.proofs.reaches_swept.Goals as goal

pub returns-then-calm : goal.returns-then-calm
returns-then-calm c =
    let f = c.ranges in
    λ doc r held ok flat lo hi.
    calm_reaches doc r _ _ _ _ _ _ _ held ok flat _ _ (to_z-of_z f.low ∙ lo) (to_z-of_z f.high ∙ hi) (c.calm.ensures c.if-calm.true) _ c.unmoved.ensures.0 c.unmoved.ensures.1

pub returns : goal.returns
returns c =
    let f = c.ranges in
    λ doc r held ok flat lo hi. c.reaches_sought.ensures doc r held ok flat (to_z-of_z f.low ∙ lo) (to_z-of_z f.high ∙ hi)
