-- `places::units::ending` meets its contract: by how many units start by the day.
use Rattle.places.proofs.Counts.{ending_by}
use Rattle.places.proofs.units.ending.Goals as goal

pub returns : goal.returns
returns c = ending_by c.units_by-u.ensures c.steps.ensures
