-- `block::all_zero` meets its contract: the library asks each byte.
use Rattle.std.proofs.Common.{eqb, refl, rules}
use Rattle.std.proofs.lemmas.List.Recursion.{and_is}
use Rattle.meaning.specs.Block.{all_zero}
use Rattle.block.proofs.all_zero.Goals as goal

pub returns : goal.returns
unfolding all_zero
returns c = and_is all_zero (λ x. eqb x 0) refl (λ _ _. refl) c.args.s.now 0 _ (search rules) (search rules)
