-- `literal::fields::values` meets its contract: those below f are counted.
use native.Mathlib.Omega.{arith}
use Rattle.literal.proofs.Counting.{counted_none, counted-more, counted_skip, counted-all}
use Rattle.literal.proofs.fields.values.Goals as goal
use Rattle.literal.proofs.fields.values.Goals.{then-gives, else-gives}

pub loop-f-init : goal.loop-f-init
loop-f-init c = (omega arith, λ h. absurd (omega arith), λ doc p r l w. counted_none _ _)

pub loop-f-preserved : goal.loop-f-preserved
loop-f-preserved c =
    let s = c.loop-f in
    elim c.if-gives.branch [
      | then-gives w ↦ (
        omega arith,
        λ h. omega arith,
        λ doc p r l y. counted-more _ _ _ _ (s.invariant.2 doc p r l y) _ _ _ (c.gives.ensures doc p r l y) w.if-gives.true w.many-is w.only-is,
      )
      | else-gives w ↦ (
        omega arith,
        λ h. omega (arith, s.invariant.1 (omega arith)),
        λ doc p r l y. counted_skip _ _ _ _ (s.invariant.2 doc p r l y) _ _ _ (c.gives.ensures doc p r l y) w.if-gives.false w.many-is w.only-is,
      )
    ]

pub returns : goal.returns
returns c =
    let s = c.loop-f in
    (s.invariant.1, λ doc p r l w. counted-all _ _ _ _ _ (s.invariant.2 doc p r l w) (omega (arith, l.tree.kind.size)))
