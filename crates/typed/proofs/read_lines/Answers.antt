-- `typed::read_lines` meets its contract. The invariant: the records of the lines that were read stand in the columns, and what is left is read from here.
use mathlib.Core.Path.{sym, ◌∙◌}
use mir.Syntax.{w32}
use Rattle.numbers.proofs.Signs.{given}
use Rattle.typed.proofs.Filling.{line-sound, filling_none, filling_more, filling_bad, filling_all}
use Rattle.typed.proofs.read_lines.Goals as goal

pub loop-i-init : goal.loop-i-init
loop-i-init c = filling_none _ _ _ _

pub returns-in_default : goal.returns-in_default
returns-in_default c =
    filling_bad c.loop-i.invariant c.loop-i-test.true (sym c.line_at.ensures ∙ c.in_default.is)

pub loop-i-preserved : goal.loop-i-preserved
loop-i-preserved c =
    let line = sym c.in-Some.ensures in
    filling_more c.loop-i.invariant c.loop-i-test.true c.requires.1 line (given w32 (line-sound _ _ line).fits)

pub returns : goal.returns
returns c = filling_all c.loop-i.invariant c.loop-i-test.false c.after_last.ensures
