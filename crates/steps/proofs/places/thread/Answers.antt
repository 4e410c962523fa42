-- `steps::places::thread` meets its contract: the chains by the classes of the places are those of the item numbers.
use mathlib.Core.Path.{refl}
use Rattle.steps.proofs.Placing.{threaded}
use Rattle.steps.proofs.places.thread.Goals as goal

pub returns : goal.returns
returns c =
    let p = c.requires in
    threaded _ _ _ _ _ _ _ _ p.0 p.3 c.class_places-class.ensures.1 refl c.chain.ensures
