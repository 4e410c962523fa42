-- `literal::offence::taken` meets its contract, with one value and without.
use Rattle.literal.proofs.Judging.{taken_not, taken-one}
use Rattle.literal.proofs.offence.taken.Goals as goal

pub returns-then-t-ne1 : goal.returns-then-t-ne1
returns-then-t-ne1 c = λ doc w. taken_not _ _ c.if-t-ne1.true

pub returns : goal.returns
returns c = λ doc w. taken-one _ _ c.if-t-ne1.false _ (c.shared.ensures doc w)
