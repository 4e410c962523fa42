-- `day::look` meets its contract: fresh marks are clear.
use Rattle.day.proofs.Settling.{fresh}
use Rattle.day.proofs.look.Goals as goal

pub offender_on-requires : goal.offender_on-requires
offender_on-requires c =
    let p = c.requires in
    (p.0, p.1, p.2, p.3, p.4, fresh p.5)

pub returns : goal.returns
returns c = c.offender_on.ensures
