-- `report::report_by` meets its contract: the report on the node image that was opened.
use Rattle.report.proofs.report_by.Goals as goal

pub returns : goal.returns
returns c = c.report_rules.ensures _ c.open_nodes-columns.ensures
