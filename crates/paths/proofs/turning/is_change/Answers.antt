-- `paths::turning::is_change` meets its contract: no record below i that is read turns on the day.
use native.Mathlib.Omega.{arith}
use Rattle.paths.proofs.Days.{change_first, change_turn, change_none}
use Rattle.paths.proofs.turning.is_change.Goals as goal

pub returns-then-first-d : goal.returns-then-first-d
returns-then-first-d c = λ doc q r t m e. change_first _ _ _ _ doc q r t m _ e c.if-first-d.true

pub returns-then-read-i : goal.returns-then-read-i
returns-then-read-i c = λ doc q r t m e. change_turn _ _ _ _ doc q r t m _ e _ c.loop-i-test.true c.if-read-i.true

pub returns : goal.returns
returns c =
    λ doc q r t m e. change_none _ _ _ _ doc q r t m _ e c.if-first-d.false _ (omega arith) c.loop-i.invariant
