-- `prepare::select::left_below` meets its contract: nothing is left below what is no version, and a version has one name less than what stands above it.
use native.Mathlib.Omega.{arith}
use Rattle.prepare.proofs.Descending.{left_other, down_item, down_above, down_before, left_down}
use Rattle.prepare.proofs.select.left_below.Goals as goal

pub returns-then-records-v-ne2 : goal.returns-then-records-v-ne2
returns-then-records-v-ne2 c = λ doc r t a b below. left_other _ _ _ doc r t _ c.if-records-v-ne2.true

pub left_before-before-requires : goal.left_before-before-requires
left_before-before-requires c =
    let d = c.requires in
    let k = c.if-records-v-ne2.false in
    (d.short, (down_item _ _ _ _ _ _ d k _ c.index-item.ensures).1, down_above _ _ _ _ _ _ d k _ c.index-item.ensures)

pub offset_bounds-records-item : goal.offset_bounds-records-item
offset_bounds-records-item c =
    let d = c.requires in
    omega (arith, (down_item _ _ _ _ _ _ d c.if-records-v-ne2.false _ c.index-item.ensures).0)

pub bounds-records-item : goal.bounds-records-item
bounds-records-item c =
    let d = c.requires in
    (down_item _ _ _ _ _ _ d c.if-records-v-ne2.false _ c.index-item.ensures).0

pub left_after-requires : goal.left_after-requires
left_after-requires c =
    let d = c.requires in
    (d.short, down_before _ _ _ _ _ _ d c.if-records-v-ne2.false _ c.index-item.ensures _ c.left_before-before.ensures.0 c.left_before-before.ensures.1)

pub returns : goal.returns
returns c =
    let d = c.requires in
    λ doc r t p s below. left_down _ _ _ _ _ _ d c.if-records-v-ne2.false _ c.index-item.ensures _ c.left_before-before.ensures.0 c.left_before-before.ensures.1 doc r t _ p s below _ c.left_after.ensures
