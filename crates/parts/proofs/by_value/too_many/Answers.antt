-- `parts::by_value::too_many` meets its contract: as many values are present as records count.
use Rattle.distinct.proofs.Counting.{values-by, values-present, pairs_ordered, unmoved_ordered}
use Rattle.parts.proofs.Using.{none-by}
use Rattle.parts.proofs.Resorting.{ordered_ground}
use borrow.Author.Rules.{rules}
use Rattle.parts.proofs.by_value.too_many.Goals as goal

pub returns-then-not-crowded : goal.returns-then-not-crowded
returns-then-not-crowded c = values-present _ _ _ _ _ _ _ (none-by _ _ _ _ _ _ (c.crowded.ensures c.if-not-crowded.true))

pub firsts-begins-requires : goal.firsts-begins-requires
firsts-begins-requires c =
    let p = c.requires in
    let pr = c.pairs_of-pair.ensures in
    (p.0.few, pairs_ordered _ _ _ _ _ _ p.0.few pr p.0.by_begin, pr.room, p.0.ground.lo_room, p.0.ground.hi_room)

pub too_many-requires : goal.too_many-requires
too_many-requires c =
    let p = c.requires in
    let o = unmoved_ordered _ _ _ _ _ (c.firsts-begins.ensures.1 c.if-not-begins.true) p.0.by_begin in
    (record { few = p.0.few; ground = ordered_ground _ _ _ _ _ o c.firsts-begins.ensures.0.room p.0.ground.hi_room; in_keys = p.0.in_keys; by_begin = o; by_end = p.0.by_end }, p.2, search (rules, p.3), p.4)

pub returns-then-not-begins : goal.returns-then-not-begins
returns-then-not-begins c =
    values-by _ _ _ _ _ _ _ c.requires.0.few c.pairs_of-pair.ensures c.firsts-begins.ensures.0 _ _ c.too_many.ensures

pub returns : goal.returns
returns c =
    values-by _ _ _ _ _ _ _ c.requires.0.few c.pairs_of-pair.ensures c.firsts-begins.ensures.0 _ _ c.resorted.ensures
