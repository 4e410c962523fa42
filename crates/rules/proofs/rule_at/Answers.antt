-- `rules::rule_at` meets its contract: the rule is that of its record.
use mathlib.Core.Path.{sym, ap, ◌∙◌}
use Rattle.meaning.specs.Rules.{rule_in}
use Rattle.rules.proofs.Tables.{rule_here}
use Rattle.rules.proofs.rule_at.Goals as goal

pub returns : goal.returns
returns c =
    c.rule_in.ensures ∙ ap rule_in c.record_in.ensures.bytes ∙ sym (rule_here c.args.image.now c.args.k c.requires.below)
