-- `places::units::units_by` meets its contract: months, or days.
use Rattle.places.proofs.Days.{days_by}
use Rattle.places.proofs.units.units_by.Goals as goal

pub returns-then-monthly : goal.returns-then-monthly
returns-then-monthly c = rw c.if-monthly.true c.months_by.ensures

pub returns : goal.returns
returns c = days_by c.if-monthly.false
