-- `groups::gather` meets its contract: the chains by the classes of the keys are those of the item numbers.
use Rattle.groups.proofs.Gathering.{gathered}
use Rattle.groups.proofs.gather.Goals as goal

pub returns : goal.returns
returns c = λ doc rule k s g. gathered doc rule _ _ _ _ _ _ k c.requires.0 s g c.class_keys.ensures c.chain.ensures
