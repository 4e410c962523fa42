-- `typed::nothing` meets its contract.
use mathlib.Core.Path.{refl}
use Rattle.typed.specs.Entered.{blank}
use Rattle.typed.proofs.nothing.Goals as goal

pub returns : goal.returns
unfolding blank
returns c = (refl, refl)
