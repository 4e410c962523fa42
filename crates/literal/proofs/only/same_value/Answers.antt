-- `literal::only::same_value` meets its contract.
use Rattle.numbers.proofs.Callers.{signs}
use Rattle.literal.proofs.Alone.{same-is}
use borrow.Author.Rules.{rules}
use Rattle.literal.proofs.only.same_value.Goals as goal

pub returns : goal.returns
returns c = λ doc w. same-is doc _ _ w _ _ _ (search (rules, signs))
