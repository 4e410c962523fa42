-- `rules::table_size` meets its contract.
use Rattle.rules.proofs.Tables.{counted}
use Rattle.rules.proofs.table_size.Goals as goal

pub returns : goal.returns
returns c = counted c.requires c.count_records.ensures
