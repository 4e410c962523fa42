-- `bank::looking::judge_opened` meets its contract: no such rule; or what was opened, with its survey, is what a verdict is asked over.
use Rattle.columns.proofs.Fronted.{whole_front}
use Rattle.nodes.proofs.Held.{held-image}
use Rattle.opening.proofs.Opens.{accepted-both, open_fronts, alone}
use Rattle.bank.proofs.Opens.{opened}
use Rattle.bank.proofs.Judged.{no_rule_lem, rule_here}
use Rattle.bank.proofs.looking.judge_opened.Goals as goal

pub count_rules-requires : goal.count_rules-requires
count_rules-requires c = let p = c.requires in (accepted-both _ p.0.1 p.1).1

pub returns-then-count_rules-rule : goal.returns-then-count_rules-rule
returns-then-count_rules-rule c nodes o =
    let ok = accepted-both _ o c.requires.1 in
    no_rule_lem nodes _ _ c.count_rules.ensures ok.0 ok.1 c.if-count_rules-rule.true

pub front-requires : goal.front-requires
front-requires c = let p = c.requires in (held-image p.0.0 p.0.1.columns.answer (alone _ p.0.1 p.1)).few

pub survey_columns-found-requires : goal.survey_columns-found-requires
survey_columns-found-requires c =
    let p = c.requires in
    let f = open_fronts _ p.0.1 p.1 in
    let w = whole_front c.front.ensures f.whole in
    (f.doc, w.values_held, w.periods, w.numbers, w.judgeable)

pub verdict_of-requires : goal.verdict_of-requires
verdict_of-requires c =
    let p = c.requires in
    (rule_here p.0.0 _ _ c.count_rules.ensures c.if-count_rules-rule.false, (p.0.0, opened _ p.0.1 p.1 c.front.ensures c.all.ensures c.survey_columns-found.ensures))

pub returns : goal.returns
returns c nodes o =
    c.verdict_of.ensures nodes (opened _ o c.requires.1 c.front.ensures c.all.ensures c.survey_columns-found.ensures)
