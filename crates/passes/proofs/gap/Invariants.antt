-- `passes::gap` meets its contract: each turn takes a record as a demand, then as a supply.
use Rattle.passes.proofs.Gapping.{Met}
use Rattle.passes.proofs.gap.Given as goal

abbrev pub invariant-loop-number : goal.invariant-loop-number
invariant-loop-number l = Met l.order l.demands.lo.now l.demands.key.now l.demands.hi.now l.supply l.shi l.room l.number-index l.d l.reach l.need
