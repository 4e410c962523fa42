-- `selectors::walk::step_end` meets its contract. The invariant: from here the step ends where it does from its start.
use mathlib.Core.Path.{◌∙◌}
use native.Mathlib.Omega.{arith}
use borrow.Author.Rules.{rules}
use Rattle.selectors.proofs.Stepping.{stop_here, stop_past, stop_on}
use Rattle.selectors.proofs.walk.step_end.Goals as goal

pub returns-then-text-end-eq-SLASH : goal.returns-then-text-end-eq-SLASH
returns-then-text-end-eq-SLASH c =
    let l = c.loop-end in
    let none = stop_here 47 c.args.text.now l.end c.loop-end-test.true c.if-text-end-eq-SLASH.true in
    (omega (arith, none, l.invariant.1), l.invariant.0)

pub loop-end-preserved : goal.loop-end-preserved
loop-end-preserved c =
    let l = c.loop-end in
    let here = c.loop-end-test.true in
    (search rules, stop_on 47 _ l.end here c.if-text-end-eq-SLASH.false ∙ l.invariant.1)

pub returns : goal.returns
returns c =
    let l = c.loop-end in
    let none = stop_past 47 c.args.text.now l.end c.loop-end-test.false in
    (omega (arith, none, l.invariant.0, l.invariant.1), omega arith)
