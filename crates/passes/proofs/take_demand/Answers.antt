-- `passes::take_demand` meets its contract.
use native.Mathlib.Omega.{arith}
use Rattle.passes.proofs.Gapping.{demand-taken}
use Rattle.passes.proofs.take_demand.Goals as goal

pub returns : goal.returns
returns c =
    demand-taken _ _ _ _ c.index-k.ensures (omega arith) (omega arith) _ _ _ _ _ c.raised.ensures c.max.ensures
