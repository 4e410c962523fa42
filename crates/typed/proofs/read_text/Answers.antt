-- `typed::read_text` meets its contract: the columns that were filled, or columns of zeros where the text is not in the form.
use Rattle.typed.specs.Entered.{blank}
use Rattle.typed.proofs.Texts.{reads-bad}
use Rattle.typed.proofs.read_text.Goals as goal

pub returns-in_default : goal.returns-in_default
returns-in_default c =
    reads-bad c.read_into-answer.ensures c.in_default.is c.nothing.ensures.0 c.nothing.ensures.1

pub returns : goal.returns
unfolding blank
returns c =
    let read = c.read_into-answer.ensures in
    record { answer = read.answer; columns = read.columns _ c.in-Ok.is }
