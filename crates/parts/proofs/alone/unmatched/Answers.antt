-- `parts::alone::unmatched` meets its contract: a value in a row is demanded, and one that is alone in another row supplied.
use Rattle.parts.proofs.Matching.{unmatched_by}
use Rattle.parts.proofs.alone.unmatched.Goals as goal

pub returns : goal.returns
returns c =
    let p = c.requires in
    unmatched_by _ _ _ _ p.1 _ _ _ _ _ _ _ _ c.value_keys.ensures p.4 c.sole-s.ensures c.sole_keys-held.ensures _ c.either.ensures
