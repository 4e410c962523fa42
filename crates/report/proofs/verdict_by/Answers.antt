-- `report::verdict_by` meets its contract: by the plain engine on a sequenced rule, or by the quick one.
use Rattle.rules.proofs.Tables.{accepted-row}
use Rattle.plain.proofs.Received.{read-fronts}
use Rattle.report.proofs.Texts.{plainly_promised}
use Rattle.report.proofs.verdict_by.Goals as goal

pub rule_at-r-requires : goal.rule_at-r-requires
rule_at-r-requires c =
    accepted-row c.args.rules.now c.requires.1.1.table c.args.k c.requires.0

pub verdict_of-requires : goal.verdict_of-requires
verdict_of-requires c =
    let p = c.requires in
    let o = p.1.1 in
    (p.0, (p.1.0, read-fronts o.accepted o.table o.fronts o.document))

pub returns-then-r-eq0 : goal.returns-then-r-eq0
returns-then-r-eq0 c nodes o =
    plainly_promised nodes _ _ c.rule_at-r.ensures c.if-r-eq0.true _ (c.verdict_of.ensures nodes (read-fronts o.accepted o.table o.fronts o.document))
