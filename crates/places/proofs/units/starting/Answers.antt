-- `places::units::starting` meets its contract: by how many units start before the day.
use Rattle.places.proofs.Counts.{starting_by}
use Rattle.places.proofs.units.starting.Goals as goal

pub returns : goal.returns
returns c = starting_by c.units_before-u.ensures c.steps.ensures
