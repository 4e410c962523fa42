-- `opening::open` meets its contract: the columns of the nodes, and what came of both images beside them.
use Rattle.opening.proofs.Opens.{opens}
use Rattle.opening.proofs.open.Goals as goal

pub returns : goal.returns
returns c =
    opens _ c.open_nodes-columns.ensures c.after_rules.ensures c.beside.ensures
