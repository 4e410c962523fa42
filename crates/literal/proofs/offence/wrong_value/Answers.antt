-- `literal::offence::wrong_value` meets its contract: no record below f gives a wrong value.
use native.Mathlib.Omega.{arith}
use Rattle.literal.proofs.Counting.{any-hit, any-start, any-miss, any-end}
use Rattle.literal.proofs.Judging.{datatype-is}
use Rattle.literal.proofs.offence.wrong_value.Goals as goal

pub loop-f-init : goal.loop-f-init
loop-f-init c = λ doc p l w. any-start _

pub returns-then-gives_wrong : goal.returns-then-gives_wrong
returns-then-gives_wrong c =
    λ doc p l w. datatype-is doc p _ _ _ (any-hit _ _ _ (c.gives_wrong.ensures doc p l w) _ (omega (arith, l.tree.kind.size)) c.if-gives_wrong.true)

pub loop-f-preserved : goal.loop-f-preserved
loop-f-preserved c =
    λ doc p l w. any-miss _ _ _ (c.gives_wrong.ensures doc p l w) (c.loop-f.invariant doc p l w) c.if-gives_wrong.false

pub returns : goal.returns
returns c = λ doc p l w. datatype-is doc p _ _ _ (any-end _ _ _ (c.loop-f.invariant doc p l w) (omega (arith, l.tree.kind.size)))
