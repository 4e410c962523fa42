-- `block::size_fits` meets its contract: it is the test itself.
use Rattle.std.proofs.Common.{refl}
use Rattle.meaning.specs.Block.{size_fits}
use Rattle.block.proofs.size_fits.Goals as goal

pub returns : goal.returns
unfolding size_fits
returns c = refl
