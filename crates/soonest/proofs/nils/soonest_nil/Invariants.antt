-- `soonest::nils::soonest_nil` meets its contract: none of the first i versions is a nil in a row with a place.
use Rattle.meaning.specs.declared.Rule.{Rule}
use Rattle.meaning.specs.Document.{Doc}
use Rattle.soonest.specs.Nils.{Nilled}
use Rattle.soonest.proofs.Spoiling.{Passed}
use Rattle.soonest.proofs.nils.soonest_nil.Given as goal

abbrev pub invariant-loop-number : goal.invariant-loop-number
invariant-loop-number l = (doc : Doc) (r : Rule) (s : Nilled doc r l.at l.records.vkind.now l.row l.records.begin.now l.records.end.now l.opens) → Passed doc r l.at l.records.vkind.now l.row l.records.begin.now l.records.end.now l.opens s l.number-index
