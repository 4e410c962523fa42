-- `writer::filling::put_last` meets its contract: each number behind the one before it.
use mathlib.Core.Path.{refl, ap}
use mir.Syntax.{w32}
use mir.Val.{SFits}
use mir.Facts.{to_z-of_z}
use borrow.Author.Rules.{rules}
use Rattle.meaning.specs.Bytes.{quad, bits}
use Rattle.writer.proofs.Puts.{puts_on, put_as}
use Rattle.writer.proofs.filling.put_last.Goals as goal

pub returns : goal.returns
returns c =
    let fits : SFits w32 c.args.n.value = search rules in
    let value = put_as c.put.ensures (ap (λ z. quad (bits z)) (to_z-of_z fits)) in
    puts_on (puts_on value refl c.put-2.ensures) refl c.put-3.ensures
