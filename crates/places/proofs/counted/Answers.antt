-- `places::counted` meets its contract: as many places as start before the close, as many whole as end by it.
use mathlib.Core.Path.{refl, ◌∙◌}
use Rattle.places.proofs.Days.{least_min}
use Rattle.places.proofs.Bounds.{counted-made}
use Rattle.places.proofs.counted.Goals as goal

pub returns : goal.returns
returns c = (
  record { monthly = refl; first = refl; span = refl; slide = refl; close = refl },
  counted-made c.requires.1 c.starting-count.ensures c.ending-ended.ensures (c.min-whole.ensures ∙ least_min _ _),
)
