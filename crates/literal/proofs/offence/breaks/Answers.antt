-- `literal::offence::breaks` meets its contract, by the kind of the rule.
use mathlib.Core.Path.{refl}
use native.Mathlib.Omega.{arith}
use Rattle.literal.proofs.Judging.{breaks-count, breaks-datatype}
use Rattle.literal.proofs.offence.breaks.Goals as goal

pub returns-then-r-eq4 : goal.returns-then-r-eq4
returns-then-r-eq4 c = λ doc p q w. breaks-count doc p q _ _ c.if-r-eq4.true (c.wrong_count.ensures doc p w.laid.tree w.laid.present)

pub returns-then-r-gt4 : goal.returns-then-r-gt4
returns-then-r-gt4 c = λ doc p q w. breaks-datatype doc p q _ _ c.if-r-gt4.true (c.wrong_value.ensures doc p w.laid w.valued)

pub breaks_values-requires : goal.breaks_values-requires
breaks_values-requires c =
    let p = c.requires in
    let e = p.2.vkind in
    let v = p.1 in
    let room = p.2.value in
    let most = c.if-r-gt4.false in
    let other = c.if-r-eq4.false in
    (λ h. omega (arith, c.values-t.ensures.0 h), omega arith, omega arith, rw e (p.2.inside (omega arith)))

pub returns : goal.returns
returns c =
    let low = c.requires.0 in
    let most = c.if-r-gt4.false in
    let other = c.if-r-eq4.false in
    λ doc p q w. c.breaks_values.ensures doc p q _ w.valued w.compares (c.values-t.ensures.1 doc p _ w.laid refl) refl low (omega arith)
