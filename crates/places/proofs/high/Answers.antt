-- `places::high` meets its contract: those that start before the lesser of the day and the close.
use mathlib.Core.Path.{◌∙◌}
use native.Mathlib.Omega.{arith}
use Rattle.places.proofs.Days.{least_min}
use Rattle.places.proofs.Bounds.{high-by}
use Rattle.places.proofs.high.Goals as goal

pub starting-requires : goal.starting-requires
starting-requires c =
    let p = c.requires in
    let a = c.args in
    (p.0, p.1.slide_least, omega (arith, p.1.close_most, c.min-day.ensures))

pub returns : goal.returns
returns c = high-by _ c.requires.1 _ _ _ (c.min-day.ensures ∙ least_min _ _) c.starting.ensures
