-- `columns::chains::chain` meets its contract: the pass has chained the records below i, and each turn skips or adds record i.
use lib.ListN.{length}
use Rattle.columns.specs.Chains.{Chained}
use Rattle.columns.proofs.chains.chain.Given as goal

abbrev pub invariant-loop-i : goal.invariant-loop-i
invariant-loop-i l = Chained (length l.initial.last) l.kind l.key l.want l.i l.last l.lower
