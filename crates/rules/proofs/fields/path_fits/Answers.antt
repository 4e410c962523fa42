-- `rules::fields::path_fits` meets its contract.
use Rattle.meaning.specs.Rules.{path_fits}
use Rattle.rules.proofs.fields.path_fits.Goals as goal

pub returns : goal.returns
unfolding path_fits
returns c = rw c.places_fit.ensures
