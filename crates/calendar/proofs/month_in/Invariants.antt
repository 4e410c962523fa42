-- `calendar::month_in` meets its contract. The loop's invariant: no month before number k starts on the day.
-- Assumes nothing.
use mathlib.Core.Path.{◌≡◌}
use Prim.Native.Nat.{ℕ, ◌<◌}
use Rattle.calendar.specs.Gregorian.{month_start}
use Rattle.calendar.proofs.month_in.Given as goal

-- no month before number k starts on the day
abbrev pub Passed : ℕ → ℕ → Type 0
Passed day k = (j : ℕ) → j < k → month_start j ≡ day → ⊥

abbrev pub invariant-loop-k : goal.invariant-loop-k
invariant-loop-k l = Passed l.day l.k
