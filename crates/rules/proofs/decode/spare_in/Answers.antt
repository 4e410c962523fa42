-- `rules::decode::spare_in` meets its contract.
use Rattle.rules.proofs.Decoding.{spare}
use Rattle.rules.proofs.decode.spare_in.Goals as goal

pub returns : goal.returns
returns c = spare _ c.requires c.all_zero.ensures
