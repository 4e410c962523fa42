-- `writer::filling::fill_blocks` meets its contract: after each turn one block more stands behind those before it.
use Prim.Native.Nat.{◌<◌, ◌*◌}
use native.Mathlib.Omega.{arith}
use Rattle.meaning.specs.Block.{node_form, blocks_for}
use Rattle.document.specs.Front.{held}
use Rattle.writer.proofs.Shares.{block_taken}
use Rattle.writer.proofs.Puts.{lent-room}
use Rattle.writer.proofs.Fillings.{blocks-none, blocks_more, blocks-all}
use Rattle.writer.proofs.filling.fill_blocks.Goals as goal
use Rattle.writer.proofs.filling.fill_blocks.Goals.{In-loop-b}

-- block b is one of those that the records take
within : (c : In-loop-b) → c.loop-b.b < blocks_for node_form c.args.n
within c = omega (arith, c.blocks_for-b-end.ensures.0)

pub loop-b-init : goal.loop-b-init
loop-b-init c = blocks-none _ _

pub fill_block-requires : goal.fill_block-requires
fill_block-requires c =
    record {
      held = c.requires.1;
      few = c.requires.0;
      here = block_taken node_form (omega arith) c.args.n c.loop-b.b (within (goal.at.fill_block-requires c).In-loop-b);
      fits = lent-room c.loop-b.image (512 * c.loop-b.b) 512 (omega (arith, within (goal.at.fill_block-requires c).In-loop-b, c.requires.2, c.loop-b.auto.image));
    }

pub loop-b-preserved : goal.loop-b-preserved
loop-b-preserved c =
    blocks_more c.args.n (held c.args.records) c.args.image.now c.loop-b.image _ c.loop-b.b c.loop-b.auto.image (omega (arith, within (goal.at.loop-b-preserved c).In-loop-b, c.requires.2)) c.loop-b.invariant c.fill_block.ensures

pub returns : goal.returns
returns c =
    blocks-all c.args.n (held c.args.records) c.args.image.now c.loop-b.image c.loop-b.b (omega (arith, c.blocks_for-b-end.ensures.0)) c.loop-b.invariant
