-- `writer::filling::put_header` meets its contract: each number behind the one before it.
use mathlib.Core.Path.{refl}
use Rattle.writer.proofs.Puts.{puts_on}
use Rattle.writer.proofs.filling.put_header.Goals as goal

pub returns : goal.returns
returns c =
    puts_on (puts_on (puts_on c.put.ensures refl c.put-2.ensures) refl c.put-3.ensures) refl c.put-4.ensures
