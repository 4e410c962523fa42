-- `spelling::lines::unreadable` meets its contract.
use Rattle.spelling.specs.Spelled.{word}
use Rattle.spelling.proofs.Pieces.{puts_then}
use Rattle.spelling.specs.Lines.{unreadable_line}
use Rattle.spelling.proofs.lines.unreadable.Goals as goal

pub returns : goal.returns
unfolding unreadable_line word
returns c = puts_then (puts_then c.put-word.ensures c.put-end.ensures) c.put.ensures
