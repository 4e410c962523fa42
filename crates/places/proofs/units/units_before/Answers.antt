-- `places::units::units_before` meets its contract: months, or days.
use Rattle.places.proofs.Days.{days_before}
use borrow.Author.Rules.{rules}
use Rattle.places.proofs.units.units_before.Goals as goal

pub returns-then-monthly : goal.returns-then-monthly
returns-then-monthly c = rw c.if-monthly.true c.months_before.ensures

pub returns : goal.returns
returns c = days_before c.if-monthly.false (search rules)
