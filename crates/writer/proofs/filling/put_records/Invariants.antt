-- `writer::filling::put_records` meets its contract: after each turn the bytes of one record more stand behind the header.
use Rattle.meaning.specs.Walk.{listed}
use Rattle.meaning.specs.Block.{joined}
use Rattle.numbers.specs.Put.{Put}
use Rattle.writer.specs.Filling.{bytes_from}
use Rattle.document.specs.Front.{held}
use Rattle.writer.proofs.filling.put_records.Given as goal

abbrev pub invariant-loop-k : goal.invariant-loop-k
invariant-loop-k l = Put l.initial.part 8 (joined (listed (bytes_from (held l.records) l.first) 0 l.k)) l.part
