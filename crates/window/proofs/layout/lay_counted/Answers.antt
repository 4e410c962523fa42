-- `window::layout::lay_counted` meets its contract: the way is the rule's own, the chains are those of the item numbers.
use Rattle.window.proofs.Spreading.{spread-counted}
use Rattle.window.proofs.layout.lay_counted.Goals as goal

pub returns : goal.returns
returns c =
    λ doc t v g s k. spread-counted k s (c.gather-links.ensures doc _ t.kind (c.keys_of-key.ensures doc t v) g)
