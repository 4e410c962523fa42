-- `crowds::endings` meets its contract: each turn takes one end off, or passes over it.
use Rattle.crowds.specs.Tallies.{Ended}
use Rattle.crowds.proofs.endings.Given as goal

abbrev pub invariant-loop-j : goal.invariant-loop-j
invariant-loop-j l = Ended l.closes l.spans.key.now l.spans.lo.now l.spans.hi.now l.n l.until l.from l.j l.initial.tally l.tally
