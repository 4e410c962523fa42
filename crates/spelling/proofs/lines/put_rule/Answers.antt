-- `spelling::lines::put_rule` meets its contract.
use Rattle.spelling.specs.Spelled.{word}
use Rattle.spelling.proofs.Pieces.{puts_then}
use Rattle.spelling.specs.Lines.{rule_line}
use Rattle.spelling.proofs.lines.put_rule.Goals as goal

pub returns : goal.returns
unfolding rule_line word
returns c = puts_then (puts_then c.put_number-number.ensures c.put_verdict-end.ensures) c.put.ensures
