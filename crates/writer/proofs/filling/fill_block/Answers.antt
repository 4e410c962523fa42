-- `writer::filling::fill_block` meets its contract: header, records, zeros and check, one behind the other, are the block.
use Rattle.document.specs.Front.{held}
use Rattle.writer.proofs.Fillings.{block_filled}
use Rattle.writer.proofs.filling.fill_block.Goals as goal

pub returns : goal.returns
returns c =
    block_filled c.args.n c.args.b c.count_in-m.result (held c.args.records) c.count_in-m.ensures c.requires.fits
    c.put_header.ensures c.put_records.ensures c.put_zeros.ensures c.check_of-check.ensures c.put.ensures
