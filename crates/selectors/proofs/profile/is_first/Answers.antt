-- `selectors::profile::is_first` meets its contract.
use Rattle.selectors.specs.Profile.{is_first}
use Rattle.selectors.proofs.profile.is_first.Goals as goal

pub returns : goal.returns
unfolding is_first
returns c = rw c.is_letter.ensures
