-- `passes::clash` meets its contract: of two that clash, one is a hit, or is to come.
use Rattle.passes.proofs.Clashing.{Sweep}
use Rattle.passes.proofs.clash.Given as goal

abbrev pub invariant-loop-number : goal.invariant-loop-number
invariant-loop-number l = Sweep l.order l.spans.key.now l.owner l.spans.lo.now l.spans.hi.now l.room l.number-index l.top l.holder
