-- `rules::count_rules` meets its contract: an accepted image has accepted blocks.
use Rattle.rules.proofs.Tables.{accepted-blocks}
use Rattle.rules.proofs.count_rules.Goals as goal

pub table_size-requires : goal.table_size-requires
table_size-requires c = accepted-blocks _ c.requires
