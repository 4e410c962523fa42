-- `spelling::lines::put_refusal` meets its contract.
use Rattle.spelling.specs.Spelled.{word}
use Rattle.spelling.proofs.Pieces.{puts_then}
use Rattle.spelling.specs.Lines.{refused_line}
use Rattle.spelling.proofs.lines.put_refusal.Goals as goal

pub returns : goal.returns
unfolding refused_line word
returns c = puts_then (puts_then (puts_then c.put-word.ensures c.put_next-first.ensures) c.put_next-second.ensures) c.put.ensures
