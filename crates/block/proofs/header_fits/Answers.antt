-- `block::header_fits` meets its contract: it is the test itself, on what the calls gave.
use Rattle.meaning.specs.Block.{header_fits}
use Rattle.block.proofs.header_fits.Goals as goal

pub returns : goal.returns
unfolding header_fits
returns c =
    rw (c.four_at-number.ensures, c.two_at-count.ensures, c.least-low.ensures)
