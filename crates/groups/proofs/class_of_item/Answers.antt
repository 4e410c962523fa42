-- `groups::class_of_item` meets its contract: with a lower item of its number, and without one.
use Rattle.groups.proofs.Namesakes.{class-by, class-own}
use Rattle.groups.proofs.class_of_item.Goals as goal

pub namesake-j-requires : goal.namesake-j-requires
namesake-j-requires c =
    let p = c.requires in
    let tw = p.0.twins in
    (p.0.nested.item, p.2, p.4, record { room = tw.room; key = tw.key; same = tw.same; steps = tw.steps })

pub returns-then-j-i : goal.returns-then-j-i
returns-then-j-i c =
    let x = c.args.nest.records in
    let p = c.requires in
    class-by x.kind.now x.parent.now x.item.now _ p.2 p.4 _ c.namesake-j.ensures _ p.3 c.if-j-i.true

pub returns : goal.returns
returns c =
    let x = c.args.nest.records in
    let p = c.requires in
    class-own x.kind.now x.parent.now x.item.now _ p.2 p.4 _ c.namesake-j.ensures c.if-j-i.false
