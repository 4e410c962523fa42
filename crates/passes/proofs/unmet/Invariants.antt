-- `passes::unmet` meets its contract.
use Rattle.passes.specs.Gaps.{Unmet}
use Rattle.passes.proofs.unmet.Given as goal

abbrev pub invariant-loop-k : goal.invariant-loop-k
invariant-loop-k l = Unmet l.reach l.need l.d l.k l.r
