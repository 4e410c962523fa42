-- `literal::fields::gives` meets its contract.
use Rattle.literal.proofs.Fielding.{field_gives}
use Rattle.literal.proofs.fields.gives.Goals as goal

pub returns : goal.returns
returns c = λ doc p r l w. field_gives doc p r _ _ _ _ _ l _ _ _ (c.present_field.ensures doc p r l.tree l.present w)
