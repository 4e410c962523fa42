-- `block::read_blocks` meets its contract. The invariant: from block b on, the blocks that are left give the answer on the image.
use Rattle.std.proofs.Common.{◌≡◌, ◌-◌, ◌*◌, ◌≤◌, length}
use Rattle.meaning.specs.Order.{earliest, in_order}
use Rattle.meaning.specs.Block.{image_tests}
use Rattle.block.proofs.Answers.{answer_at}
use Rattle.block.proofs.read_blocks.Given as goal

abbrev pub invariant-loop-b : goal.invariant-loop-b
invariant-loop-b l = (l.count ≤ 65536) × (512 * l.count ≡ length l.image) × (earliest (answer_at l.form l.image) l.b (l.count - l.b) ≡ in_order (image_tests l.form l.image))
