-- `bank::opened::verdict_of` meets its contract: the rule and the one that it refers to fit the table, and what is judged of them is the verdict.
use Rattle.rules.proofs.Tables.{accepted-row, fields_of, fields_referred}
use Rattle.bank.proofs.Judged.{rule_judged}
use Rattle.bank.proofs.opened.verdict_of.Goals as goal

pub rule_at-r-requires : goal.rule_at-r-requires
rule_at-r-requires c =
    accepted-row c.args.rules.now c.requires.1.1.table c.args.k c.requires.0

pub referred_rule-q-requires : goal.referred_rule-q-requires
referred_rule-q-requires c = let p = c.requires in (p.1.1.table, p.0)

pub judge_front-requires : goal.judge_front-requires
judge_front-requires c =
    let o = c.requires.1.1 in (
      fields_of c.args.rules.now o.table c.args.k c.requires.0 c.rule_at-r.ensures,
      fields_referred c.args.rules.now o.table c.args.k c.requires.0 c.rule_at-r.ensures c.referred_rule-q.ensures,
      (o.fronts, rw o.document o.surveyed),
    )

pub returns : goal.returns
returns c nodes o =
    rule_judged nodes _ _ o.accepted o.table c.requires.0 c.rule_at-r.ensures c.referred_rule-q.ensures
    (λ p e. rw o.document at (c.judge_front.ensures o.fronts.doc p o.fronts.whole (rw o.document o.surveyed) e))
