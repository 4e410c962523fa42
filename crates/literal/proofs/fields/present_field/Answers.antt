-- `literal::fields::present_field` meets its contract.
use native.Mathlib.Omega.{arith}
use Rattle.literal.proofs.Fielding.{field_present}
use Rattle.literal.proofs.fields.present_field.Goals as goal

pub returns : goal.returns
returns c = λ doc p r t m w. field_present p doc.size _ m _ (omega (arith, t.kind.size)) _ _ (c.field_of.ensures doc r t w)
