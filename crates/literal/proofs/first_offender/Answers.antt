-- `literal::first_offender` meets its contract: what is left at v is the walk from v on.
use mathlib.Core.Path.{sym, ◌∙◌}
use native.Mathlib.Omega.{arith}
use Rattle.meaning.proofs.Loops.{first-start, first-end}
use Rattle.literal.proofs.Counting.{first-hit, first-miss}
use Rattle.literal.proofs.first_offender.Goals as goal

pub loop-v-init : goal.loop-v-init
loop-v-init c = λ doc p q w m. first-start _ _

pub returns-then-offends : goal.returns-then-offends
returns-then-offends c =
    λ doc p q w m. first-hit _ _ _ _ (c.offends.ensures doc p q w m) _ (c.loop-v.invariant doc p q w m) (omega (arith, w.laid.tree.kind.size)) c.if-offends.true

pub loop-v-preserved : goal.loop-v-preserved
loop-v-preserved c =
    λ doc p q w m. first-miss _ _ _ _ (c.offends.ensures doc p q w m) _ (c.loop-v.invariant doc p q w m) (omega (arith, w.laid.tree.kind.size)) c.if-offends.false

pub returns : goal.returns
returns c =
    λ doc p q w m. sym (first-end _ _ _ (omega (arith, w.laid.tree.kind.size))) ∙ c.loop-v.invariant doc p q w m
