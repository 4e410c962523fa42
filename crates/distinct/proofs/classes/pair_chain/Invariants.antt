-- `distinct::classes::pair_chain` meets its contract: each turn gives the next record of the chain its class.
use Rattle.distinct.specs.Classes.{Stand}
use Rattle.distinct.proofs.Classing.{OnChain}
use Rattle.distinct.proofs.classes.pair_chain.Given as goal

abbrev pub invariant-loop-past : goal.invariant-loop-past
invariant-loop-past l = OnChain l.v.key.now l.v.n l.k l.past × Stand l.v.key.now l.v.rep.now l.v.n l.k l.past l.whose l.pair

abbrev pub decreases-loop-past : goal.decreases-loop-past
decreases-loop-past l = l.past
