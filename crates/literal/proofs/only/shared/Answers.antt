-- `literal::only::shared` meets its contract: no version below u shares the value.
use native.Mathlib.Omega.{arith}
use Rattle.literal.proofs.Counting.{any-hit, any-start, any-miss, any-end}
use Rattle.literal.proofs.only.shared.Goals as goal

pub loop-u-init : goal.loop-u-init
loop-u-init c = λ doc w. any-start _

pub returns-then-shares : goal.returns-then-shares
returns-then-shares c = λ doc w. any-hit _ _ _ (c.shares.ensures doc w) _ (omega arith) c.if-shares.true

pub loop-u-preserved : goal.loop-u-preserved
loop-u-preserved c =
    λ doc w. any-miss _ _ _ (c.shares.ensures doc w) (c.loop-u.invariant doc w) c.if-shares.false

pub returns : goal.returns
returns c = λ doc w. any-end _ _ _ (c.loop-u.invariant doc w) (omega arith)
