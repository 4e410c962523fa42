-- `places::units::months_by` meets its contract: those before the day, and the next one if it starts on it.
use native.Mathlib.Omega.{arith}
use Rattle.places.proofs.Days.{months_few, months_by_one, months_by_none}
use Rattle.places.proofs.units.months_by.Goals as goal

pub overflow_add-result : goal.overflow_add-result
overflow_add-result c =
    record { fits = omega (arith, months_few _ _ c.requires.1 c.months_before-m.ensures) }

pub returns-then-index-day : goal.returns-then-index-day
returns-then-index-day c =
    months_by_one _ _ c.requires.1 c.months_before-m.ensures (omega arith)

pub returns : goal.returns
returns c =
    months_by_none _ _ c.requires.1 c.months_before-m.ensures (λ e. omega arith)
