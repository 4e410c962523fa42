-- `parts::by_value::cardinality` meets its contract: the sooner of two places serves for both.
use native.Mathlib.Omega.{arith}
use Rattle.distinct.proofs.Counting.{values-earlier}
use Rattle.parts.proofs.Earlier.{cut_earlier}
use Rattle.parts.proofs.by_value.cardinality.Goals as goal

pub returns : goal.returns
returns c =
    (cut_earlier _ _ _ _ _ c.too_few-few.ensures c.below_whole.ensures (omega arith), values-earlier _ _ _ _ _ _ (omega arith) c.too_many-many.ensures)
