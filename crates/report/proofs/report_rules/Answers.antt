-- `report::report_rules` meets its contract: the line of a refusal, or the table.
use Rattle.opening.proofs.Opens.{refused_after, loaded-after, opens_after}
use Rattle.spelling.proofs.Pieces.{puts_as}
use Rattle.report.proofs.Texts.{refused_images}
use Rattle.report.proofs.report_rules.Goals as goal

pub put_table-requires : goal.put_table-requires
put_table-requires c =
    let p = c.requires in
    let here = c.in-Ok.is in
    ((p.0, opens_after _ p.1 c.after_rules-both.ensures here), loaded-after _ p.1 c.after_rules-both.ensures here)

pub returns-in-Err : goal.returns-in-Err
returns-in-Err c image u =
    puts_as c.put_refusal.ensures (refused_images image _ (refused_after _ u c.after_rules-both.ensures c.in-Err.is))

pub returns-in-Ok : goal.returns-in-Ok
returns-in-Ok c image u =
    c.put_table.ensures image (opens_after _ u c.after_rules-both.ensures c.in-Ok.is)
