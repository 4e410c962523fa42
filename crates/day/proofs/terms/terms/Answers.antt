-- `day::terms::terms` meets its contract: one way out for each kind.
use Rattle.day.proofs.Termwise.{key-terms, unique-terms, reference-terms, datatype-terms}
use Rattle.day.proofs.terms.terms.Goals as goal

pub returns-then-rule-eq1 : goal.returns-then-rule-eq1
returns-then-rule-eq1 c = key-terms _ c.if-rule-eq1.true

pub returns-then-rule-eq2 : goal.returns-then-rule-eq2
returns-then-rule-eq2 c = unique-terms _ c.if-rule-eq2.true

pub returns-then-rule-eq3 : goal.returns-then-rule-eq3
returns-then-rule-eq3 c = reference-terms _ c.if-rule-eq3.true

pub returns : goal.returns
returns c =
    datatype-terms _ c.requires c.if-rule-eq1.false c.if-rule-eq2.false c.if-rule-eq3.false c.if-rule-eq4.false
