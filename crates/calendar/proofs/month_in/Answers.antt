-- `calendar::month_in` meets its contract. The loop's invariant: no month before number k starts on the day.
-- Assumes nothing.
use mathlib.Core.Path.{◌≡◌, sym, ◌∙◌}
use mathlib.Core.Logic.{by_cases}
use Prim.Native.Nat.{ℕ, ◌<◌}
use native.Mathlib.Decide.{dec_le}
use native.Mathlib.Omega.{arith}
use borrow.Author.Count.{below_more}
use Rattle.calendar.specs.Gregorian.{month_start, month_on}
use Rattle.std.specs.Prelude.{None}
use Rattle.calendar.proofs.Months.{start_early, start_rises, month_on-start, month_on-absent}
use Rattle.calendar.proofs.month_in.Invariants.{Passed}
use Rattle.calendar.proofs.month_in.Goals as goal

-- and none from k on, where month k starts past it
none_left : (day k : ℕ) → Passed day k → day < month_start k → month_on day ≡ None
none_left day k passed late =
    month_on-absent day
    (λ j h q. by_cases (dec_le k j) (λ m. omega (arith, start_rises k j m)) (λ m. passed j (omega arith) q))

pub loop-k-init : goal.loop-k-init
loop-k-init c j h q = omega (arith, start_early j)

pub returns-then-start-day : goal.returns-then-start-day
returns-then-start-day c = sym (month_on-start _ _ (omega arith) (omega arith))

pub returns-then-day-start : goal.returns-then-day-start
returns-then-day-start c =
    let loop = c.loop-k in
    sym (none_left _ loop.k loop.invariant (omega arith))

pub loop-k-preserved : goal.loop-k-preserved
loop-k-preserved c =
    below_more _ _ c.loop-k.invariant
    (λ q. c.if-start-day.false (c.entry-start.ensures ∙ q))

pub returns : goal.returns
returns c = sym (month_on-absent _ (λ j h q. c.loop-k.invariant j (omega arith) q))
