-- `parts::alone::along` meets its contract: the pass for gaps is given what it asks for.
use Rattle.parts.proofs.Matching.{given_apart, any-by}
use Rattle.parts.proofs.alone.along.Goals as goal

pub gap_apart-requires : goal.gap_apart-requires
gap_apart-requires c = let p = c.requires in given_apart _ _ _ _ p.2 _ _ _ _ _ p.3 p.4 p.0 p.1

pub returns : goal.returns
returns c =
    let p = c.requires in
    any-by _ _ _ _ p.2 _ _ _ _ _ p.3 p.4 _ c.gap_apart.ensures
