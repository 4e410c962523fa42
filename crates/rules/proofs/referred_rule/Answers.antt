-- `rules::referred_rule` meets its contract: a reference of an accepted table refers to one of its rules.
use Rattle.meaning.specs.Rules.{rules_of}
use Rattle.rules.proofs.Tables.{accepted-row, referred-row, itself, the_other}
use Rattle.rules.proofs.referred_rule.Goals as goal

pub rule_at-rule-requires : goal.rule_at-rule-requires
rule_at-rule-requires c = accepted-row _ c.requires.0 _ c.requires.1

pub returns-then-rule-ne3 : goal.returns-then-rule-ne3
returns-then-rule-ne3 c =
    let a = c.args in
    itself (rules_of a.image.now) a.k c.rule_at-rule.ensures c.if-rule-ne3.true

pub rule_at-requires : goal.rule_at-requires
rule_at-requires c =
    let p = c.requires in
    referred-row _ p.0 _ p.1 c.rule_at-rule.ensures c.if-rule-ne3.false

pub returns : goal.returns
returns c =
    let a = c.args in
    the_other (rules_of a.image.now) a.k c.rule_at-rule.ensures c.if-rule-ne3.false c.rule_at.ensures
