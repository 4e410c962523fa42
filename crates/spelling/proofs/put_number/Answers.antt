-- `spelling::put_number` meets its contract.
use mathlib.Core.Path.{◌∙◌}
use borrow.Author.Rules.{rules}
use Rattle.spelling.proofs.Pieces.{puts_as}
use Rattle.spelling.proofs.Numerals.{in_decimal}
use Rattle.spelling.proofs.put_number.Goals as goal

pub returns : goal.returns
returns c =
    let d = c.decimal-n in
    puts_as c.put.ensures (d.ensures.digits ∙ in_decimal d.result (search rules) d.ensures.len)
