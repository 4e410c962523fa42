-- `judging::soonest_place` meets its contract: it is the finder's answer.
use Rattle.judging.proofs.soonest_place.Goals as goal

pub returns : goal.returns
returns c = λ doc q g. rw c.index.ensures (c.soonest.ensures doc q g)
