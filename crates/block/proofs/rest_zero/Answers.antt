-- `block::rest_zero` meets its contract.
use Rattle.meaning.specs.Block.{rest_zero}
use Rattle.block.proofs.rest_zero.Goals as goal

pub returns : goal.returns
unfolding rest_zero
returns c =
    rw (c.all_zero.ensures, c.record_at-rest.ensures.place, c.two_at.ensures)
