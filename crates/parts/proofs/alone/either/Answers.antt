-- `parts::alone::either` meets its contract: any list of supplies serves.
use Rattle.parts.proofs.Matching.{ground_covers}
use Rattle.parts.proofs.alone.either.Goals as goal

pub is_kept-requires : goal.is_kept-requires
is_kept-requires c = let p = c.requires in ground_covers _ _ _ _ p.3 p.4.froms
