-- `selectors::profile::is_inner` meets its contract.
use Rattle.selectors.specs.Profile.{is_inner}
use Rattle.selectors.proofs.profile.is_inner.Goals as goal

pub returns : goal.returns
unfolding is_inner
returns c = rw c.is_letter.ensures
