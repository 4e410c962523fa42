-- `rules::fields::least_field` meets its contract.
use borrow.Author.Tests.{eq-eqb, ne_eqb}
use Rattle.rules.proofs.fields.least_field.Goals as goal

pub returns-then-kind-eq4 : goal.returns-then-kind-eq4
returns-then-kind-eq4 c = rw (eq-eqb _ _ c.if-kind-eq4.true)

pub returns-else-kind-eq4 : goal.returns-else-kind-eq4
returns-else-kind-eq4 c = rw (ne_eqb _ _ c.if-kind-eq4.false)
