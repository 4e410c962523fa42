-- `writer::filling::blocks_for` meets its contract.
use native.Mathlib.Omega.{arith}
use Rattle.meaning.specs.Block.{blocks_for}
use Rattle.writer.proofs.filling.blocks_for.Goals as goal

pub returns : goal.returns
unfolding blocks_for
returns c = (omega arith, omega arith)
