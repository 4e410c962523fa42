-- `survey::survey_columns` meets its contract: what the four finds give, put together.
use Rattle.survey.proofs.Finding.{surveyed}
use Rattle.survey.proofs.survey_columns.Goals as goal

pub returns : goal.returns
returns c doc v p n =
    let o = c.versions_by-begins.ensures in
    let e = c.versions_by-ends.ensures in
    surveyed doc _ v.kind (c.represent-rep.ensures doc v) (c.group-group.ensures doc n) o.in_order o.many o.room e.in_order e.room
