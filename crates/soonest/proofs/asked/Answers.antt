-- `soonest::asked` meets its contract.
use Rattle.meaning.proofs.Basics.{clear}
use Rattle.soonest.proofs.Lining.{asks-either}
use Rattle.soonest.proofs.asked.Goals as goal

pub returns : goal.returns
returns c = λ a. absurd (clear (asks-either _ a) c.if-kind.false)
