-- `writer::filling::fill_blocks` meets its contract: after each turn one block more stands behind those before it.
use Rattle.meaning.specs.Walk.{listed}
use Rattle.meaning.specs.Block.{joined}
use Rattle.document.specs.Front.{held}
use Rattle.numbers.specs.Put.{Put}
use Rattle.writer.proofs.Fillings.{block_at}
use Rattle.writer.proofs.filling.fill_blocks.Given as goal

abbrev pub invariant-loop-b : goal.invariant-loop-b
invariant-loop-b l = Put l.initial.image 0 (joined (listed (block_at l.n (held l.records)) 0 l.b)) l.image
