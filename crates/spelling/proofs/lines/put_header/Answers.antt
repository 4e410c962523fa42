-- `spelling::lines::put_header` meets its contract.
use Rattle.spelling.specs.Spelled.{word}
use Rattle.spelling.specs.Lines.{header}
use borrow.Author.Rules.{rules}
use Rattle.spelling.proofs.lines.put_header.Goals as goal

pub returns : goal.returns
unfolding header word
returns c = search rules
