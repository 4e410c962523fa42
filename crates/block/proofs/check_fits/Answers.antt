-- `block::check_fits` meets its contract: it is the test itself, on what the calls gave.
use Rattle.meaning.specs.Block.{check_fits}
use Rattle.block.proofs.check_fits.Goals as goal

pub returns : goal.returns
unfolding check_fits
returns c = rw (c.four_at-stored.ensures, c.check_of.ensures)
