-- `rules::decode::decode` meets its contract: one answer for each test that fails, and the numbers of the rule for none.
use mathlib.Core.Path.{ap, ◌∙◌}
use Rattle.meaning.specs.Rules.{rule_fields}
use Rattle.rules.specs.Decoding.{numbers_of}
use Rattle.rules.proofs.Decoding.{not_zero, breaks-table, sound}
use Rattle.std.proofs.Common.{not}
use Rattle.rules.proofs.decode.decode.Goals as goal

pub returns-then-not-spare_in : goal.returns-then-not-spare_in
returns-then-not-spare_in c = not_zero _ c.spare_in.ensures (ap not c.if-not-spare_in.true)

pub returns-then-not-rule_fields : goal.returns-then-not-rule_fields
returns-then-not-rule_fields c =
    breaks-table _ c.spare_in.ensures (ap not c.if-not-spare_in.false) (c.rule_fields.ensures ∙ ap rule_fields c.rule_in-rule.ensures) (ap not c.if-not-rule_fields.true)

pub returns : goal.returns
returns c =
    let rule = c.rule_in-rule.ensures in
    sound _ c.spare_in.ensures (ap not c.if-not-spare_in.false) (c.rule_fields.ensures ∙ ap rule_fields rule) (ap not c.if-not-rule_fields.false) (c.numbers_of.ensures ∙ ap numbers_of rule)
