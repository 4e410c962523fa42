-- `parts::counts::below` meets its contract: where fewer than `low` are present nothing is supplied.
use Rattle.meaning.specs.Block.{limit}
use Rattle.parts.proofs.Supplied.{fresh_clear, given_gap_until, few-until}
use borrow.Author.Rules.{rules}
use Rattle.parts.proofs.counts.below.Goals as goal

pub level-requires : goal.level-requires
level-requires c =
    let p = c.requires in
    let all = p.0 in
    (all.by_begin, all.by_end, record { in_keys = all.in_keys; in_lo = all.ground.lo_room; in_hi = all.ground.hi_room; in_tally = p.5 }, p.6, search rules, all.few, p.3, fresh_clear _ limit all.few)

pub gap-requires : goal.gap-requires
gap-requires c =
    let p = c.requires in
    given_gap_until _ _ _ _ p.0.ground c.demand_keys.ensures.room p.0.in_keys (search (rules, p.0)) (search (rules, p.5)) (search (rules, p.6))

pub returns : goal.returns
returns c =
    let p = c.requires in
    few-until _ _ _ _ p.0.ground _ _ _ _ _ _ _ c.demand_keys.ensures p.2 c.level.ensures c.gap.ensures
