-- `window::counted_at` meets its contract: the chains of the item numbers and the bounds are what is counted by.
use Rattle.window.proofs.Settling.{answer, counting}
use Rattle.window.proofs.counted_at.Goals as goal

pub counting_in-requires : goal.counting_in-requires
counting_in-requires c = (c.requires.2.0, _, c.requires.2.1)

pub returns : goal.returns
returns c =
    λ doc q w s from to short.
    answer doc q _ w (c.counting_in.ensures doc q _ w s (counting _ _ _ c.terms-bounds.ensures c.requires.1 w short c.asked.ensures) from to)
