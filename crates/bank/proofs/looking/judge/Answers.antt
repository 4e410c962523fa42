-- `bank::looking::judge` meets its contract: a refusal of either image, or what their columns and table give.
use Rattle.bank.proofs.Judged.{verdict-refused}
use Rattle.bank.proofs.looking.judge.Goals as goal

pub returns-in-Err : goal.returns-in-Err
returns-in-Err c = verdict-refused _ _ _ c.open-columns.ensures c.in-Err.is

pub returns : goal.returns
returns c = c.judge_opened.ensures _ c.open-columns.ensures
