-- `block::record_part` meets its contract: its place in its block, and where its block starts.
use Rattle.std.proofs.Common.{refl, arith}
use Rattle.block.proofs.Places.{in_block, block_here}
use Rattle.block.proofs.record_part.Goals as goal

pub overflow_mul-at : goal.overflow_mul-at
overflow_mul-at c = record { fits = omega (arith, block_here c.requires) }

pub record_from-requires : goal.record_from-requires
record_from-requires c = record { fair = c.requires.fair; here = omega (arith, block_here c.requires); few = in_block c.requires }

pub returns : goal.returns
returns c = c.record_from.ensures c.args.i refl refl
