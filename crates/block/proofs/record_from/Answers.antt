-- `block::record_from` meets its contract: the part of the block from the record's place to the next one's.
use Rattle.block.proofs.Places.{part_of}
use Rattle.block.proofs.record_from.Goals as goal

pub returns : goal.returns
returns c =
    part_of c.requires.here c.record_at-from.ensures.place c.record_at-to.ensures.place c.record_at-to.ensures.room
