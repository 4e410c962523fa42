-- `selectors::walk::is_star` meets its contract.
use Rattle.selectors.proofs.Stepping.{star_one, star_other}
use Rattle.selectors.proofs.walk.is_star.Goals as goal

pub returns-then-step-eq1 : goal.returns-then-step-eq1
returns-then-step-eq1 c = star_one _ c.if-step-eq1.true

pub returns : goal.returns
returns c = star_other _ c.if-step-eq1.false
