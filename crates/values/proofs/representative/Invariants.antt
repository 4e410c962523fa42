-- `values::representative` meets its contract: what is left is to find a version below `past-g` with the value of f.
use Rattle.values.specs.Chosen.{held_by, ByValue}
use Rattle.values.proofs.Falling.{Falling}
use Rattle.values.proofs.representative.Given as goal

abbrev pub invariant-loop-past_g : goal.invariant-loop-past_g
invariant-loop-past_g l = (b : ByValue (held_by l.records) l.lower) × Falling (held_by l.records) b.key l.f l.past_g

abbrev pub decreases-loop-past_g : goal.decreases-loop-past_g
decreases-loop-past_g l = l.past_g
