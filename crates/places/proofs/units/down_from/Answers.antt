-- `places::units::down_from` meets its contract: a month before the day has all earlier ones before it.
use Prim.Native.Nat.{◌-◌}
use native.Mathlib.Omega.{arith}
use Rattle.places.proofs.Days.{months_up_to}
use Rattle.places.proofs.units.down_from.Goals as goal

pub returns-then-start-day : goal.returns-then-start-day
returns-then-start-day c = (omega arith, λ j h. months_up_to _ (c.loop-k.k - 1) (omega arith) j (omega arith))

pub returns : goal.returns
returns c = (omega arith, λ j h. absurd (omega arith))
