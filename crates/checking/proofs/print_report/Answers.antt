-- `print_report` writes the whole report: the buffer has room for it.
use Rattle.std.proofs.Common.{rules, ◌∙◌}
use Rattle.report.proofs.Theorems.{report_whole}
use Rattle.checking.proofs.print_report.Goals as goal

pub write_report-requires : goal.write_report-requires
write_report-requires g c = c.front.ensures ∙ report_whole _ _ c.report_by-end.ensures (search rules)
