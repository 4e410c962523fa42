-- `places::units::up_from` meets its contract: all months before number m start before the day.
use mathlib.Core.Path.{refl}
use native.Mathlib.Omega.{arith}
use Rattle.places.proofs.Days.{months_up_to, months_all, months_end}
use Rattle.places.proofs.units.up_from.Goals as goal

pub returns-then-day-start : goal.returns-then-day-start
returns-then-day-start c =
    let s = c.loop-m in
    months_all _ s.m (omega arith) s.invariant (omega arith)

pub loop-m-preserved : goal.loop-m-preserved
loop-m-preserved c = λ j h. months_up_to _ c.loop-m.m (omega arith) j (omega arith)

pub returns : goal.returns
returns c = months_end _ 1200 (omega arith) refl (λ j h. c.loop-m.invariant j (omega arith))
