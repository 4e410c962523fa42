-- `rules::references::refers_well` meets its contract: no reference, one to no rule of the table, one to some rule.
use borrow.Author.Rules.{rules}
use Rattle.rules.proofs.Answers.{no_reference, missing, by_kind}
use Rattle.rules.proofs.references.refers_well.Goals as goal

pub returns-then-kind-k-ne3 : goal.returns-then-kind-k-ne3
returns-then-kind-k-ne3 c = no_reference _ _ _ _ c.if-kind-k-ne3.true

pub returns-then-n-to : goal.returns-then-n-to
returns-then-n-to c = missing _ _ _ _ c.if-kind-k-ne3.false c.index-to.ensures (search rules)

pub returns : goal.returns
returns c =
    by_kind _ _ _ _ c.if-kind-k-ne3.false c.index-to.ensures c.if-n-to.false
