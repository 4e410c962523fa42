-- `selectors::dictionary::begins` meets its contract.
use mathlib.Core.Path.{◌∙◌}
use Rattle.selectors.proofs.Runs.{begins-here, begins-end}
use Rattle.selectors.proofs.dictionary.begins.Goals as goal

pub returns-then-at-d : goal.returns-then-at-d
returns-then-at-d c = c.is_first.ensures ∙ begins-here _ _ c.if-at-d.true

pub returns : goal.returns
returns c = begins-end _ _ c.if-at-d.false
