-- `prepare::rows::over_nils` meets its contract.
use mathlib.Core.Path.{refl}
use Rattle.prepare.specs.Rows.{over_nils}
use Rattle.prepare.proofs.rows.over_nils.Goals as goal

pub returns : goal.returns
unfolding over_nils
returns c = refl
