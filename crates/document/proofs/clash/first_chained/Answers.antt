-- `document::clash::first_chained` meets its contract: what is left at i is the walk over the records from i on.
use mathlib.Core.Path.{sym, ◌∙◌}
use native.Mathlib.Omega.{arith}
use Rattle.meaning.proofs.Loops.{first-start, first-yes, first-no, first-end}
use Rattle.document.proofs.clash.first_chained.Goals as goal

pub loop-i-init : goal.loop-i-init
loop-i-init c = (omega arith, first-start _ _)

pub clashes_lower-requires : goal.clashes_lower-requires
clashes_lower-requires c = let p = c.requires in (p.0, c.loop-i-test.true, p.1, p.2)

pub returns-then-clashes_lower : goal.returns-then-clashes_lower
returns-then-clashes_lower c = sym (first-yes _ _ _ c.loop-i-test.true (sym c.clashes_lower.ensures ∙ c.if-clashes_lower.true)) ∙ c.loop-i.invariant.1

pub loop-i-preserved : goal.loop-i-preserved
loop-i-preserved c = (omega arith, sym (first-no _ _ _ c.loop-i-test.true (sym c.clashes_lower.ensures ∙ c.if-clashes_lower.false)) ∙ c.loop-i.invariant.1)

pub returns : goal.returns
returns c = sym (first-end _ _ _ c.loop-i-test.false) ∙ c.loop-i.invariant.1
