-- `writer::write_nodes` meets its contract: refused by the records, then by the image's length, else the image of the records is put and its length answered.
use native.Mathlib.Omega.{arith}
use Rattle.document.specs.Front.{held}
use Rattle.writer.proofs.Writes.{LentSound, write_refused, accepted-sound, write_short, write_done}
use Rattle.writer.proofs.write_nodes.Goals as goal
use Rattle.writer.proofs.write_nodes.Goals.{In_default}

-- what columns satisfy that were accepted
sound : (c : In_default) → LentSound c.args.count (held c.args.records)
sound c =
    accepted-sound c.args.count (held c.args.records) c.args.image.now c.accept_lent-read.ensures c.in_default.is

pub returns-in-Err : goal.returns-in-Err
returns-in-Err c =
    write_refused c.args.count (held c.args.records) c.args.image.now c.accept_lent-read.ensures c.in-Err.is

pub blocks_for-size-requires : goal.blocks_for-size-requires
blocks_for-size-requires c = (sound (goal.at.blocks_for-size-requires c).In_default).few

pub overflow_mul-size : goal.overflow_mul-size
overflow_mul-size c = omega (arith, (sound (goal.at.overflow_mul-size c).In_default).few, c.blocks_for-size.ensures.1)

pub returns-then-image-size : goal.returns-then-image-size
returns-then-image-size c =
    write_short c.args.count (held c.args.records) c.args.image.now c.accept_lent-read.ensures c.in_default.is _ (omega (arith, c.blocks_for-size.ensures.0)) c.if-image-size.true

pub fill_blocks-requires : goal.fill_blocks-requires
fill_blocks-requires c =
    let w = sound (goal.at.fill_blocks-requires c).In_default in
    (w.few, w.held, omega (arith, c.blocks_for-size.ensures.0))

pub returns : goal.returns
returns c =
    write_done c.args.count (held c.args.records) c.args.image.now c.accept_lent-read.ensures c.in_default.is _ (omega (arith, c.blocks_for-size.ensures.0)) c.if-image-size.false c.fill_blocks.ensures
