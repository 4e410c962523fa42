-- `writer::filling::put_record` meets its contract: the second half behind the first.
use mathlib.Core.Path.{refl}
use Rattle.meaning.specs.Nodes.{node_bytes}
use Rattle.writer.proofs.Puts.{puts_on}
use Rattle.writer.proofs.filling.put_record.Goals as goal

pub returns : goal.returns
unfolding node_bytes
returns c = puts_on c.put_first.ensures refl c.put_last.ensures
