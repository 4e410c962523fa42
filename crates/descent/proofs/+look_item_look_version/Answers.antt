-- `descent::look_item` and `descent::look_version` meet their contracts, the levels falling from one item to the next: what is marked after either is what was
-- marked before it, and what is come to from its item, or from the items in its version.
use Rattle.std.proofs.Common.{refl, ◌∙◌, [], arith, rules}
use Rattle.descent.proofs.Looking.{past-few, look_none, look_lost, look_found, walked_start, walked_end, walked_less, walked_next}
use Rattle.descent.proofs.+look_item_look_version.Goals as goal

pub look_item-returns-then-levels-eq0 : goal.look_item-returns-then-levels-eq0
look_item-returns-then-levels-eq0 t c =
    let x = c.args in
    λ doc l w. look_none l x.d x.levels x.i x.seen.now w c.if-levels-eq0.true

pub look_item-returns-then-past-eq0 : goal.look_item-returns-then-past-eq0
look_item-returns-then-past-eq0 t c =
    let x = c.args in
    λ doc l w. look_lost l x.d x.levels x.i x.seen.now w _ (c.current-past.ensures doc l) c.if-past-eq0.true

pub look_item-bounds-seen-past : goal.look_item-bounds-seen-past
look_item-bounds-seen-past t c =
    let p = c.requires in
    omega (arith, past-few p.2.1 _ _ _ (c.current-past.ensures _ p.2.1))

pub look_item-look_version-requires : goal.look_item-look_version-requires
look_item-look_version-requires t c =
    let p = c.requires in
    let few = past-few p.2.1 _ _ _ (c.current-past.ensures _ p.2.1) in
    (omega arith, (omega arith, search rules, p.2))

pub look_item-returns : goal.look_item-returns
look_item-returns t c =
    let x = c.args in
    λ doc l w. look_found l x.d x.levels x.i x.seen.now w _ (c.current-past.ensures doc l) c.if-past-eq0.false c.if-levels-eq0.false c.requires.1 _
    (c.look_version.ensures doc l w)

pub look_version-loop-past_j-init : goal.look_version-loop-past_j-init
look_version-loop-past_j-init t c =
    let p = c.requires in
    let s = walked_start p.2.1 0 0 _ p.0 [] _ c.index-past_j.ensures in
    (omega (arith, s.low, p.2.1.judgeable.few), refl, λ doc l. walked_start l _ _ _ p.0 _ _ c.index-past_j.ensures)

pub look_version-loop-past_j-smaller : goal.look_version-loop-past_j-smaller
look_version-loop-past_j-smaller t c =
    let p = c.requires in
    walked_less p.2.1 _ _ _ p.0 _ _ _ (c.loop-past_j.invariant.2 _ p.2.1) (omega arith) _ c.index-past_j-in-loop-past_j.ensures

pub look_version-loop-past_j-preserved : goal.look_version-loop-past_j-preserved
look_version-loop-past_j-preserved t c =
    let p = c.requires in
    let less = walked_less p.2.1 _ _ _ p.0 _ _ _ (c.loop-past_j.invariant.2 _ p.2.1) (omega arith) _ c.index-past_j-in-loop-past_j.ensures in (
      omega (arith, less),
      c.look_item.auto.seen ∙ c.loop-past_j.invariant.1,
      λ doc l. walked_next l _ _ _ p.0 _ _ _ (c.loop-past_j.invariant.2 doc l) (omega arith) _ c.index-past_j-in-loop-past_j.ensures _ (c.look_item.ensures doc l),
    )

pub look_version-returns : goal.look_version-returns
look_version-returns t c =
    λ doc l w. walked_end l _ _ _ c.requires.0 _ _ _ (c.loop-past_j.invariant.2 doc l) c.loop-past_j-test.false w
