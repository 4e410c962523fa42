-- `parts::holders::shared` meets its contract: two values that are one clash.
use Rattle.parts.proofs.Using.{given_clash, shared_by}
use Rattle.parts.proofs.holders.shared.Goals as goal

pub clash-requires : goal.clash-requires
clash-requires c =
    let p = c.requires in
    given_clash _ _ _ _ p.0 c.value_keys.ensures.room p.2 p.5 p.6

pub returns : goal.returns
returns c =
    let p = c.requires in
    shared_by _ _ _ _ p.0 _ _ _ c.value_keys.ensures p.3 _ _ c.clash.ensures
