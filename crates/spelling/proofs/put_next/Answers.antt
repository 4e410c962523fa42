-- `spelling::put_next` meets its contract.
use Rattle.spelling.proofs.Pieces.{puts_then}
use Rattle.spelling.proofs.put_next.Goals as goal

pub returns : goal.returns
returns c = puts_then c.put-to.ensures c.put_number.ensures
