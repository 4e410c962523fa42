-- `selectors::walk::step_number` meets its contract.
use mathlib.Core.Path.{sym, ◌∙◌}
use Rattle.selectors.proofs.Filling.{step-star, step-name}
use Rattle.selectors.proofs.walk.step_number.Goals as goal

pub returns-then-is_star : goal.returns-then-is_star
returns-then-is_star c = step-star _ _ (sym c.is_star.ensures ∙ c.if-is_star.true)

pub returns : goal.returns
returns c = c.number_in.ensures ∙ step-name _ _ (sym c.is_star.ensures ∙ c.if-is_star.false)
