-- `steps::spans::is_narrow` meets its contract: what is moved up is the bounds, read back.
use mathlib.Core.Path.{◌∙◌, ap}
use mir.Facts.{to_z-of_z}
use Rattle.steps.specs.Levels.{raised}
use Rattle.steps.proofs.Calming.{narrow_by}
use Rattle.steps.proofs.spans.is_narrow.Goals as goal

pub returns : goal.returns
returns c =
    narrow_by _ _ _ _ _ _ (c.raised-top.ensures.0 ∙ ap raised (to_z-of_z c.ranges.high)) (c.raised-bottom.ensures.0 ∙ ap raised (to_z-of_z c.ranges.low))
