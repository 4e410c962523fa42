-- `selectors::walk::look_up` meets its contract.
use Rattle.selectors.proofs.Filling.{looks_refused, looks_path}
use Rattle.selectors.proofs.walk.look_up.Goals as goal

pub returns-in-Err : goal.returns-in-Err
returns-in-Err c = looks_refused c.fill-answer.ensures c.in-Err.is

pub returns : goal.returns
returns c = looks_path c.fill-answer.ensures c.in_default.is
