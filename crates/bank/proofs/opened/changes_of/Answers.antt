-- `bank::opened::changes_of` meets its contract: no such rule, a rule that is not sequenced, and the list.
use Rattle.rules.proofs.Tables.{accepted-row, fields_of, fields_referred}
use Rattle.opening.proofs.Opens.{accepted-both}
use Rattle.bank.proofs.Turning.{changes_none, changes_windowed, rule_here, turnable_lent, changes-stored_lent}
use Rattle.bank.proofs.opened.changes_of.Goals as goal

pub count_rules-requires : goal.count_rules-requires
count_rules-requires c = let p = c.requires in (accepted-both _ p.0.1 p.1).1

pub returns-then-count_rules-rule : goal.returns-then-count_rules-rule
returns-then-count_rules-rule c nodes o = changes_none nodes _ _ _ o c.requires.1 c.count_rules.ensures c.if-count_rules-rule.true

pub rule_at-r-requires : goal.rule_at-r-requires
rule_at-r-requires c =
    let o = c.requires.0 in
    accepted-row _ (accepted-both _ o.1 c.requires.1).1 _ (rule_here o.0 _ c.args.rule c.args.out.now o.1 c.requires.1 c.count_rules.ensures c.if-count_rules-rule.false)

pub returns-then-r-ne0 : goal.returns-then-r-ne0
returns-then-r-ne0 c nodes o =
    changes_windowed nodes _ _ _ o c.requires.1 c.count_rules.ensures c.if-count_rules-rule.false c.rule_at-r.ensures c.if-r-ne0.true

pub referred_rule-q-requires : goal.referred_rule-q-requires
referred_rule-q-requires c =
    let o = c.requires.0 in
    ((accepted-both _ o.1 c.requires.1).1, rule_here o.0 _ c.args.rule c.args.out.now o.1 c.requires.1 c.count_rules.ensures c.if-count_rules-rule.false)

pub changes_front-requires : goal.changes_front-requires
changes_front-requires c =
    let o = c.requires.0 in
    let ok = (accepted-both _ o.1 c.requires.1).1 in
    let here = rule_here o.0 _ c.args.rule c.args.out.now o.1 c.requires.1 c.count_rules.ensures c.if-count_rules-rule.false in (
      fields_of c.args.rules.now ok c.args.rule here c.rule_at-r.ensures,
      λ e. (fields_referred c.args.rules.now ok c.args.rule here c.rule_at-r.ensures c.referred_rule-q.ensures e).0,
      turnable_lent o.0 _ c.args.rule c.args.out.now o.1 c.requires.1 c.count_rules.ensures c.if-count_rules-rule.false c.rule_at-r.ensures c.all.ensures,
    )

pub returns : goal.returns
returns c nodes o =
    changes-stored_lent nodes _ _ _ o c.requires.1 c.count_rules.ensures c.if-count_rules-rule.false c.rule_at-r.ensures c.all.ensures c.if-r-ne0.false c.referred_rule-q.ensures
    (λ doc p t w e. c.changes_front.ensures.answer doc p t w e) (λ doc p t w e. c.changes_front.ensures.lent doc p t w e)
