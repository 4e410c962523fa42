-- `opening::after_rules` meets its contract: the nodes' refusal, or what is told of the table.
use Rattle.opening.proofs.Opens.{table-told}
use Rattle.opening.proofs.after_rules.Goals as goal

pub returns : goal.returns
returns c =
    table-told _ c.in_ok-n.was c.read_rules.result c.read_rules.ensures c.told.ensures
