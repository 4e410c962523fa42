-- `steps::offends_in` meets its contract: its three tests are those of the definition.
use Rattle.steps.proofs.offends_in.Goals as goal

pub returns : goal.returns
returns c =
    rw (c.index.ensures, c.index-2.ensures, c.index-3.ensures)
