-- `distinct::classes::pair_keys` meets its contract: the keys below k are done.
use native.Mathlib.Omega.{arith}
use Rattle.distinct.proofs.Classing.{stand_all}
use Rattle.distinct.proofs.classes.pair_keys.Goals as goal

pub loop-k-init : goal.loop-k-init
loop-k-init c = c.requires.4

pub pair_chain-requires : goal.pair_chain-requires
pair_chain-requires c =
    let p = c.requires in
    (p.0, p.1, omega arith, omega arith, omega arith, c.loop-k.invariant)

pub loop-k-preserved : goal.loop-k-preserved
loop-k-preserved c = c.pair_chain.ensures

pub returns : goal.returns
returns c = stand_all _ _ _ _ _ _ c.loop-k.invariant (omega arith) (omega arith)
