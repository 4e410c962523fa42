-- `literal::fields::fields_present` meets its contract: those below f are counted.
use native.Mathlib.Omega.{arith}
use Rattle.literal.proofs.Counting.{count_none, count-more, count-skip, count-all}
use Rattle.literal.proofs.fields.fields_present.Goals as goal
use Rattle.literal.proofs.fields.fields_present.Goals.{then-present_field, else-present_field}

pub loop-f-init : goal.loop-f-init
loop-f-init c = (omega arith, λ doc p r t m w. count_none _)

pub loop-f-preserved : goal.loop-f-preserved
loop-f-preserved c =
    let s = c.loop-f in
    elim c.if-present_field.branch [
      | then-present_field w ↦ (
        omega arith,
        λ doc p r t m l.
            count-more _ _ _ (s.invariant.1 doc p r t m l) _ _ (c.present_field.ensures doc p r t m l) w.if-present_field.true w.many-is,
      )
      | else-present_field w ↦ (
        omega arith,
        λ doc p r t m l.
            count-skip _ _ _ (s.invariant.1 doc p r t m l) _ _ (c.present_field.ensures doc p r t m l) w.if-present_field.false w.many-is,
      )
    ]

pub returns : goal.returns
returns c =
    let s = c.loop-f in
    (omega arith, λ doc p r t m w. count-all _ _ _ _ (s.invariant.1 doc p r t m w) (omega (arith, t.kind.size)))
