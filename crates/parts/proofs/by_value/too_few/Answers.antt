-- `parts::by_value::too_few` meets its contract: one value is there where one record is, and else as many values as records count.
use Rattle.distinct.proofs.Counting.{pairs_ordered}
use Rattle.parts.proofs.Parting.{few-values, few-one}
use Rattle.parts.proofs.by_value.too_few.Goals as goal

pub returns-then-low-le1 : goal.returns-then-low-le1
returns-then-low-le1 c = few-one _ _ _ _ _ _ _ _ _ _ c.if-low-le1.true c.too_few.ensures

pub firsts-begins-requires : goal.firsts-begins-requires
firsts-begins-requires c =
    let p = c.requires in
    let pr = c.pairs_of-pair.ensures in
    (p.0.few, pairs_ordered _ _ _ _ _ _ p.0.few pr p.0.by_begin, pr.room, p.0.ground.lo_room, p.0.ground.hi_room)

pub returns : goal.returns
returns c =
    let p = c.requires in
    few-values _ _ _ _ _ _ _ _ _ _ p.0.few p.0.ground p.3 c.pairs_of-pair.ensures c.firsts-begins.ensures.0 _ _ c.supplied.ensures
