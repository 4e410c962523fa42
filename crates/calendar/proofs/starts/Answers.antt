-- `calendar::starts` meets its contract: the table, read off the goal, passes the test of the step rule, which antt computes here and nowhere else.
-- Assumes nothing.
use mathlib.Core.Path.{refl}
use Rattle.calendar.specs.Gregorian.{month_length}
use Rattle.calendar.proofs.Table.{steps, table-right}
use Rattle.calendar.proofs.starts.Goals as goal

pub returns : goal.returns
unfolding steps month_length
returns c = table-right _ refl refl
