-- `values::same_value` meets its contract: a value that is no nil equals another if kind and number do.
use mathlib.Core.List.{[]}
use borrow.Author.Rules.{rules}
use Rattle.numbers.proofs.Callers.{signs}
use Rattle.values.specs.Chosen.{held}
use Rattle.values.proofs.Equals.{compared}
use Rattle.values.proofs.same_value.Goals as goal

pub returns : goal.returns
returns c =
    let a = c.args in
    compared (held [] a.vkind.now a.value.now) a.f a.g _ (search (rules, signs)) c.requires.3
