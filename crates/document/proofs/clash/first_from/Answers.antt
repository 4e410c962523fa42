-- `document::clash::first_from` meets its contract: i is looked at, and every item only if i does not clash.
use Rattle.document.proofs.Clears.{clear_at}
use Rattle.document.proofs.clash.first_from.Goals as goal

pub returns-then-clashes_lower : goal.returns-then-clashes_lower
returns-then-clashes_lower c = let p = c.requires in clear_at _ _ p.4 p.2 _ c.clashes_lower.ensures c.if-clashes_lower.true
