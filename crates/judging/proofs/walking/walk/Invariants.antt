-- `judging::walking::walk` meets its contract: no place that was passed has an offender.
use Rattle.meaning.specs.declared.Rule.{Rule}
use Rattle.meaning.specs.Document.{Doc}
use Rattle.judging.specs.Armed.{ArmedOf}
use Rattle.judging.specs.Stopping.{Clear}
use Rattle.judging.proofs.walking.walk.Given as goal

abbrev pub invariant-loop-k : goal.invariant-loop-k
invariant-loop-k l = (doc : Doc) → (q : Rule) → ArmedOf doc q l.r l.arms l.records l.«of» → Clear doc q l.r l.at l.first l.k
