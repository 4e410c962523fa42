-- `rules::decode::rule_in` meets its contract: each field is what its byte or its call says; a signed one is read back from its bits.
use mathlib.Core.Path.{◌∙◌}
use mir.Syntax.{w32}
use Rattle.numbers.proofs.Signs.{given}
use Rattle.rules.proofs.Decoding.{fields}
use Rattle.rules.proofs.decode.rule_in.Goals as goal

pub returns : goal.returns
returns c =
    fields _ c.path_in-path.ensures c.two_at.ensures c.two_at-2.ensures (given w32 c.signed_at.type_inv ∙ c.signed_at.ensures)
    (given w32 c.signed_at-2.type_inv ∙ c.signed_at-2.ensures) c.two_at-3.ensures c.two_at-4.ensures c.two_at-5.ensures
    c.two_at-6.ensures
