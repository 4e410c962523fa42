-- `passes::take_supply` meets its contract.
use native.Mathlib.Omega.{arith}
use Rattle.passes.proofs.Gapping.{supply-taken}
use Rattle.passes.proofs.take_supply.Goals as goal

pub returns : goal.returns
returns c = supply-taken _ _ _ _ c.index-k.ensures (omega arith) _ _ _ _ _ c.max.ensures c.missed.ensures
