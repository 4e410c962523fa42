-- `rules::fields::distinct_fits` meets its contract.
use mathlib.Core.Path.{refl}
use Rattle.meaning.specs.Rules.{distinct_fits}
use Rattle.rules.proofs.fields.distinct_fits.Goals as goal

pub returns : goal.returns
unfolding distinct_fits
returns c = refl
