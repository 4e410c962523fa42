-- `selectors::profile::is_letter` meets its contract.
use mathlib.Core.Path.{refl}
use Rattle.selectors.specs.Profile.{is_letter}
use Rattle.selectors.proofs.profile.is_letter.Goals as goal

pub returns : goal.returns
unfolding is_letter
returns c = refl
