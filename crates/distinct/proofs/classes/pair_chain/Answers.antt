-- `distinct::classes::pair_chain` meets its contract: each turn gives the next record of the chain its class.
use mathlib.Core.Path.{◌∙◌}
use native.Mathlib.Omega.{arith}
use Rattle.distinct.proofs.Classing.{on_chain, chain_next, chain-less, stand_down, stand_more, stand_end}
use Rattle.distinct.proofs.classes.pair_chain.Goals as goal

pub loop-past-init : goal.loop-past-init
loop-past-init c =
    let p = c.requires in
    let e = c.index-past.ensures ∙ p.1.ends _ p.4 in
    (on_chain _ _ _ _ _ e (omega arith), stand_down _ _ _ _ _ _ _ p.5 _ e)

pub pair_of-requires : goal.pair_of-requires
pair_of-requires c = (c.requires.0, omega arith, omega arith)

pub loop-past-smaller : goal.loop-past-smaller
loop-past-smaller c =
    let p = c.requires in
    omega (arith, chain-less p.1 _ _ _ (omega arith) p.4 (c.loop-past.invariant.0.member (omega arith)) c.index-past-in-loop-past.ensures)

pub loop-past-preserved : goal.loop-past-preserved
loop-past-preserved c =
    let p = c.requires in
    let v = c.loop-past.invariant in
    let xk = v.0.member (omega arith) in
    let e = chain_next p.1 _ _ _ (omega arith) p.4 xk c.index-past-in-loop-past.ensures in
    let more = stand_more _ _ _ _ _ _ _ v.1 _ (omega arith) (omega arith) p.4 xk _ _ c.pair_of.ensures (omega arith) in
    (on_chain _ _ _ _ _ e (omega arith), stand_down _ _ _ _ _ _ _ more _ e)

pub returns : goal.returns
returns c = stand_end _ _ _ _ _ _ _ c.loop-past.invariant.1 (omega arith)
