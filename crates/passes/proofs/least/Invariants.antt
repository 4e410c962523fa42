-- `passes::least` meets its contract: the first record that has a key and is ever present has the least place.
use Rattle.passes.proofs.Nevers.{Never}
use Rattle.passes.proofs.least.Given as goal

abbrev pub invariant-loop-number : goal.invariant-loop-number
invariant-loop-number l = Never l.order l.spans.key.now l.spans.lo.now l.spans.hi.now l.room l.number-index
