-- `marks::next_marked` meets its contract: the next marked number from i on is the next one from `from` on.
use mathlib.Core.Path.{refl, sym, ◌∙◌}
use native.Mathlib.Omega.{arith}
use borrow.Author.Tests.{eq-eqb, ne_eqb}
use Rattle.marks.proofs.After.{after-here, after_next, after-end}
use Rattle.marks.proofs.next_marked.Goals as goal

pub loop-i-init : goal.loop-i-init
loop-i-init c = refl

pub returns-then-marks-i-eq1 : goal.returns-then-marks-i-eq1
returns-then-marks-i-eq1 c =
    let s = c.loop-i in
    sym (after-here _ _ s.i (omega arith) (eq-eqb _ 1 c.if-marks-i-eq1.true)) ∙ s.invariant

pub loop-i-preserved : goal.loop-i-preserved
loop-i-preserved c =
    let s = c.loop-i in
    sym (after_next _ _ s.i (omega arith) (ne_eqb _ 1 c.if-marks-i-eq1.false)) ∙ s.invariant

pub returns : goal.returns
returns c =
    let s = c.loop-i in
    sym (after-end _ _ s.i (omega arith)) ∙ s.invariant
