-- `places::unit_day` meets its contract: the entry of the month, or the day itself.
use mathlib.Core.Path.{◌∙◌}
use Rattle.places.proofs.Days.{day-month}
use Rattle.places.proofs.unit_day.Goals as goal

pub returns-then-monthly : goal.returns-then-monthly
returns-then-monthly c = day-month _ _ _ c.if-monthly.true (c.index.ensures ∙ c.entry.ensures)
