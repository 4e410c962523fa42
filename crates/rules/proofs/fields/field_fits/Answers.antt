-- `rules::fields::field_fits` meets its contract.
use Rattle.meaning.specs.Rules.{field_fits}
use Rattle.rules.proofs.fields.field_fits.Goals as goal

pub returns : goal.returns
unfolding field_fits
returns c = rw c.least_field.ensures
