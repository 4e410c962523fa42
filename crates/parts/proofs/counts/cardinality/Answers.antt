-- `parts::counts::cardinality` meets its contract: the sooner of two places serves for both.
use Rattle.parts.proofs.Earlier.{cut_earlier, many-earlier}
use native.Mathlib.Omega.{arith}
use Rattle.parts.proofs.counts.cardinality.Goals as goal

pub returns : goal.returns
returns c =
    (cut_earlier _ _ _ _ _ c.too_few-few.ensures c.below_whole.ensures (omega arith), many-earlier _ _ _ _ _ (omega arith) c.too_many-many.ensures)
