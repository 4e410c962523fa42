-- `places::places_of` meets its contract: by the rule's unit, and a rule of months begins with one.
use Rattle.places.proofs.Fitting.{in_order, days_small, days_placed, whole-small, whole-placed, windows-small, windows-placed, months_small, months_placed, month_there}
use Rattle.places.proofs.places_of.Goals as goal

pub counted-requires : goal.counted-requires
counted-requires c = let p = c.requires in (p.0, days_small _ p.1)

pub returns-then-rule-eq0 : goal.returns-then-rule-eq0
returns-then-rule-eq0 c = (days_placed _ c.requires.1 c.if-rule-eq0.true c.counted.ensures.0, c.counted.ensures.1)

pub overflow_sub-whole : goal.overflow_sub-whole
overflow_sub-whole c = in_order _ c.requires.1

pub counted-requires-then-rule-eq0-2 : goal.counted-requires-then-rule-eq0-2
counted-requires-then-rule-eq0-2 c = let p = c.requires in (p.0, whole-small _ p.1)

pub returns-then-rule-eq0-2 : goal.returns-then-rule-eq0-2
returns-then-rule-eq0-2 c =
    (whole-placed _ c.requires.1 c.if-rule-eq0.false c.if-rule-eq0-2.true c.counted-then-rule-eq0-2.ensures.0, c.counted-then-rule-eq0-2.ensures.1)

pub counted-requires-then-rule-eq1 : goal.counted-requires-then-rule-eq1
counted-requires-then-rule-eq1 c =
    let p = c.requires in
    (p.0, windows-small _ p.1 c.if-rule-eq1.true)

pub returns-then-rule-eq1 : goal.returns-then-rule-eq1
returns-then-rule-eq1 c =
    (windows-placed _ c.requires.1 c.if-rule-eq0.false c.if-rule-eq1.true c.counted-then-rule-eq1.ensures.0, c.counted-then-rule-eq1.ensures.1)

pub counted-requires-in-Some : goal.counted-requires-in-Some
counted-requires-in-Some c =
    let p = c.requires in
    (p.0, months_small _ p.1 c.if-rule-eq0-2.false c.if-rule-eq1.false c.month_in.ensures c.in-Some.is)

pub counted-requires-in-None : goal.counted-requires-in-None
counted-requires-in-None c =
    let p = c.requires in
    absurd (month_there _ p.1 c.if-rule-eq0-2.false c.if-rule-eq1.false c.month_in.ensures c.in-None.is)

pub returns-in-Some : goal.returns-in-Some
returns-in-Some c =
    (months_placed _ c.requires.1 c.if-rule-eq0-2.false c.if-rule-eq1.false c.if-rule-eq0.false c.month_in.ensures c.in-Some.is c.counted-in-Some.ensures.0, c.counted-in-Some.ensures.1)

pub returns-in-None : goal.returns-in-None
returns-in-None c =
    let p = c.requires in
    absurd (month_there _ p.1 c.if-rule-eq0-2.false c.if-rule-eq1.false c.month_in.ensures c.in-None.is)
