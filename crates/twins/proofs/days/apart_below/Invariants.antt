-- `twins::days::apart_below` meets its contract: below `low` they lie apart.
use Prim.Native.Nat.{◌≤◌, ◌-◌}
use Rattle.twins.specs.Classes.{ApartBy}
use Rattle.twins.proofs.days.apart_below.Given as goal

abbrev pub invariant-loop-high : goal.invariant-loop-high
invariant-loop-high l = (l.low ≤ l.high) × (l.high ≤ l.m) × ApartBy l.of l.low

abbrev pub decreases-loop-high : goal.decreases-loop-high
decreases-loop-high l = l.high - l.low
