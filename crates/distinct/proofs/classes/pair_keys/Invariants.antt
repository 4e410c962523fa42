-- `distinct::classes::pair_keys` meets its contract: the keys below k are done.
use Rattle.distinct.specs.Classes.{Stand}
use Rattle.distinct.proofs.classes.pair_keys.Given as goal

abbrev pub invariant-loop-k : goal.invariant-loop-k
invariant-loop-k l = Stand l.v.key.now l.v.rep.now l.v.n l.k l.v.n l.whose l.pair
