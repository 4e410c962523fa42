-- `rules::fields::bounds_fit` meets its contract, by whether the kind may have bounds.
use borrow.Author.Rules.{rules}
use Rattle.rules.proofs.Rows.{no_bounds, some-bounds}
use Rattle.rules.proofs.fields.bounds_fit.Goals as goal

pub returns-then-rule-le3 : goal.returns-then-rule-le3
returns-then-rule-le3 c =
    let low = c.struct_told-2-1.given.1.1.1.1.1.1.1 in
    no_bounds _ low.0.1 low.1.0.1 c.at_most-ordered.ensures (search rules) c.is_zero.ensures c.is_zero-then-rule-le3.ensures

pub returns : goal.returns
returns c =
    let low = c.struct_told-2-1.given.1.1.1.1.1.1.1 in
    some-bounds _ low.0.1 low.1.0.1 c.at_most-ordered.ensures (search rules) c.at_least_zero.ensures
