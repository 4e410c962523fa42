-- `places::units::up_from` meets its contract: all months before number m start before the day.
use Prim.Native.Nat.{ℕ, ◌<◌}
use Rattle.calendar.specs.Gregorian.{month_start}
use Rattle.places.proofs.units.up_from.Given as goal

abbrev pub invariant-loop-m : goal.invariant-loop-m
invariant-loop-m l = (j : ℕ) → j < l.m → month_start j < l.day
