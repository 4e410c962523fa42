-- `writer::filling::put_first` meets its contract: each number behind the one before it.
use mathlib.Core.Path.{refl}
use Rattle.writer.proofs.Puts.{puts_on}
use Rattle.writer.proofs.filling.put_first.Goals as goal

pub returns : goal.returns
returns c =
    let two = puts_on c.put.ensures refl c.put-2.ensures in
    let six = puts_on (puts_on two refl c.put-3.ensures) refl c.put-4.ensures in
    puts_on (puts_on six refl c.put-5.ensures) refl c.put-6.ensures
