-- `rules::record_in` meets its contract.
use Rattle.rules.proofs.Tables.{inside}
use Rattle.rules.proofs.record_in.Goals as goal

pub record_part-requires : goal.record_part-requires
record_part-requires c = inside c.requires
