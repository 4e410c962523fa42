-- `parts::counts::lacking` meets its contract: none of what a marked record demands is a gap.
use Rattle.parts.proofs.Using.{given_gap, few-by}
use Rattle.parts.proofs.counts.lacking.Goals as goal

pub gap-requires : goal.gap-requires
gap-requires c =
    let p = c.requires in
    given_gap _ _ _ _ p.0 c.demand_keys.ensures.room p.2 p.5 p.6

pub returns : goal.returns
returns c =
    let p = c.requires in
    few-by _ _ _ _ p.0 _ _ _ _ _ c.demand_keys.ensures p.3 c.gap.ensures
