-- `selectors::line::put_selector` meets its contract: each arm spells its own answer.
use Rattle.spelling.specs.Spelled.{word}
use Rattle.spelling.proofs.Pieces.{puts_then}
use Rattle.selectors.proofs.Spacing.{path-line, refused_line_lem}
use Rattle.selectors.proofs.line.put_selector.Goals as goal

pub returns-in-Ok : goal.returns-in-Ok
unfolding word
returns-in-Ok c =
    path-line _
    (puts_then
    (puts_then (puts_then (puts_then c.put-word.ensures c.put_path-numbers.ensures) c.put-length.ensures) c.put_next-end.ensures)
    c.put.ensures)
    c.in-Ok.is

pub returns-in-Err : goal.returns-in-Err
returns-in-Err c = refused_line_lem _ c.put_refusal.ensures c.in-Err.is
