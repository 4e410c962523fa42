-- `rules::fields::referred_fits` meets its contract.
use mathlib.Core.Path.{refl}
use Rattle.meaning.specs.Rules.{referred_fits}
use Rattle.rules.proofs.fields.referred_fits.Goals as goal

pub returns : goal.returns
unfolding referred_fits
returns c = refl
