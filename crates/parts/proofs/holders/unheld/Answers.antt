-- `parts::holders::unheld` meets its contract: a value that nobody has is a gap.
use Rattle.parts.proofs.Using.{given_gap, unheld_by}
use Rattle.parts.proofs.holders.unheld.Goals as goal

pub gap-requires : goal.gap-requires
gap-requires c =
    let p = c.requires in
    given_gap _ _ _ _ p.1 c.value_keys.ensures.room c.value_keys-2.ensures.room p.7 p.8

pub returns : goal.returns
returns c =
    let p = c.requires in
    unheld_by _ _ _ _ p.1 _ _ _ c.value_keys.ensures p.4 _ _ _ c.value_keys-2.ensures p.0 c.gap.ensures
