-- `plain::days::found_on` meets its contract: the day before's slice again, or judged by its marks.
use Rattle.plain.proofs.Agreeing.{unjudged, judged}
use Rattle.plain.proofs.days.found_on.Goals as goal

pub returns-then-again-opening : goal.returns-then-again-opening
returns-then-again-opening c doc q laid chosen room none = unjudged doc q _ _ _ laid.tree.kind.size c.eq-again.ensures c.if-again-opening.true none

pub offender-requires : goal.offender-requires
offender-requires c =
    let p = c.requires.1 in
    (c.requires.0, (p.0, p.1.tree, p.1.values_held, p.1.judgeable, p.2, p.3, p.5))

pub returns : goal.returns
returns c doc q laid chosen room none =
    judged doc q _ _ room (λ m. c.offender.ensures doc _ q laid.tree laid.values_held laid.judgeable chosen.own_marks chosen.held_marks m chosen.referred chosen.itself)
