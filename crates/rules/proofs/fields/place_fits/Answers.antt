-- `rules::fields::place_fits` meets its contract.
use Rattle.rules.proofs.fields.place_fits.Goals as goal

pub returns-then-used : goal.returns-then-used
returns-then-used c = rw c.if-used.true

pub returns-else-used : goal.returns-else-used
returns-else-used c = rw c.if-used.false
