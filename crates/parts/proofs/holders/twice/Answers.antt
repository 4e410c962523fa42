-- `parts::holders::twice` meets its contract: by its own number each record is another owner.
use Rattle.parts.proofs.Using.{given_clash, twice_by}
use Rattle.parts.proofs.holders.twice.Goals as goal

pub clash-requires : goal.clash-requires
clash-requires c = let p = c.requires in given_clash _ _ _ _ p.0 p.1 p.2.room p.3 p.4

pub returns : goal.returns
returns c =
    let p = c.requires in
    twice_by _ _ _ _ p.0 _ _ _ p.2 c.clash.ensures
