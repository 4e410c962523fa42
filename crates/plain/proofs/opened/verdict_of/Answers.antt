-- `plain::opened::verdict_of` meets its contract: a rule in windows; or the rule and the one that it refers to, judged over the columns' fronts.
use Rattle.rules.proofs.Tables.{accepted-row}
use Rattle.plain.proofs.Judged.{other-referred, other-itself, rule_fields_lem, other-fields, in_windows, on-every_day}
use Rattle.plain.proofs.opened.verdict_of.Goals as goal

pub rule_at-r-requires : goal.rule_at-r-requires
rule_at-r-requires c =
    accepted-row c.args.rules.now c.requires.1.1.table c.args.k c.requires.0

pub returns-then-r-ne0 : goal.returns-then-r-ne0
returns-then-r-ne0 c nodes o =
    in_windows nodes _ _ o.accepted o.table c.requires.0 c.rule_at-r.ensures c.if-r-ne0.true

pub referred_rule-other-requires : goal.referred_rule-other-requires
referred_rule-other-requires c = let p = c.requires in (p.1.1.table, p.0)

pub judge_columns-requires : goal.judge_columns-requires
judge_columns-requires c =
    let table = c.requires.1.1.table in
    let er = c.rule_at-r.ensures in
    let eo = c.referred_rule-other.ensures in (
      rule_fields_lem c.args.rules.now table c.args.k c.requires.0 er eo,
      other-fields c.args.rules.now table c.args.k c.requires.0 er eo,
      (_, _, c.requires.1.1.laid, other-referred c.args.rules.now table c.args.k c.requires.0 er eo, other-itself c.args.rules.now table c.args.k c.requires.0 er eo),
    )

pub returns : goal.returns
returns c nodes o =
    let er = c.rule_at-r.ensures in
    let eo = c.referred_rule-other.ensures in
    on-every_day nodes _ _ o.accepted o.table c.requires.0 er c.if-r-ne0.false
    (c.judge_columns.ensures _ _ o.laid (other-referred _ o.table _ c.requires.0 er eo) (other-itself _ o.table _ c.requires.0 er eo))
