-- `day::terms::own_bounds` meets its contract.
use Rattle.numbers.proofs.Callers.{signs}
use Rattle.day.proofs.Termwise.{cardinality-terms}
use borrow.Author.Rules.{rules}
use Rattle.day.proofs.terms.own_bounds.Goals as goal

pub returns : goal.returns
returns c =
    let p = c.requires in
    cardinality-terms _ p.0 p.1 (search (rules, signs)) (search (rules, signs))
