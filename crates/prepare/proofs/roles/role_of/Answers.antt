-- `prepare::roles::role_of` meets its contract: no version has no part, and a version has that of its owner.
use mathlib.Core.Path.{refl, sym, ◌∙◌}
use native.Mathlib.Omega.{arith}
use mir.Syntax.{w32}
use Rattle.numbers.proofs.Signs.{given}
use Rattle.prepare.proofs.Descending.{down_item, down_above, down_before, left_down}
use Rattle.prepare.proofs.Owning.{acts_other, role_unowned, role_wanted, role_unwanted}
use Rattle.prepare.proofs.roles.role_of.Goals as goal

pub returns-then-records-i-ne2 : goal.returns-then-records-i-ne2
returns-then-records-i-ne2 c =
    let d = c.requires.0 in
    λ doc t v a below. acts_other _ _ _ doc _ t _ (omega (arith, t.kind.size, d.tree.kind.size, d.judgeable.few)) c.if-records-i-ne2.true

pub left_before-before-requires : goal.left_before-before-requires
left_before-before-requires c =
    let d = c.requires.0 in
    let k = c.if-records-i-ne2.false in
    (d.short, (down_item _ _ _ _ _ _ d k _ c.index-item.ensures).1, down_above _ _ _ _ _ _ d k _ c.index-item.ensures)

pub offset_bounds-records-item : goal.offset_bounds-records-item
offset_bounds-records-item c =
    omega (arith, (down_item _ _ _ _ _ _ c.requires.0 c.if-records-i-ne2.false _ c.index-item.ensures).0)

pub bounds-records-item : goal.bounds-records-item
bounds-records-item c =
    (down_item _ _ _ _ _ _ c.requires.0 c.if-records-i-ne2.false _ c.index-item.ensures).0

pub left_after-here-requires : goal.left_after-here-requires
left_after-here-requires c =
    let d = c.requires.0 in
    (d.short, down_before _ _ _ _ _ _ d c.if-records-i-ne2.false _ c.index-item.ensures _ c.left_before-before.ensures.0 c.left_before-before.ensures.1)

pub offset_bounds-records-item-2 : goal.offset_bounds-records-item-2
offset_bounds-records-item-2 c =
    omega (arith, (down_item _ _ _ _ _ _ c.requires.0 c.if-records-i-ne2.false _ c.index-item.ensures).0)

pub bounds-records-item-2 : goal.bounds-records-item-2
bounds-records-item-2 c =
    (down_item _ _ _ _ _ _ c.requires.0 c.if-records-i-ne2.false _ c.index-item.ensures).0

pub offset_bounds-records-item-3 : goal.offset_bounds-records-item-3
offset_bounds-records-item-3 c =
    omega (arith, (down_item _ _ _ _ _ _ c.requires.0 c.if-records-i-ne2.false _ c.index-item.ensures).1)

pub bounds-records-item-3 : goal.bounds-records-item-3
bounds-records-item-3 c =
    (down_item _ _ _ _ _ _ c.requires.0 c.if-records-i-ne2.false _ c.index-item.ensures).1

pub returns-then-records-index : goal.returns-then-records-index
returns-then-records-index c =
    let d = c.requires.0 in
    let k = c.if-records-i-ne2.false in
    λ doc t v p below.
    role_unowned _ _ _ _ _ _ d k _ c.index-item.ensures _ c.left_before-before.ensures.0 c.left_before-before.ensures.1 doc _ t below _
    (left_down _ _ _ _ _ _ d k _ c.index-item.ensures _ c.left_before-before.ensures.0 c.left_before-before.ensures.1 doc _ t _ p refl below _ c.left_after-here.ensures)
    _ c.owner_of-owner.ensures _ c.index.ensures c.if-records-index.true

pub returns-then-wanted : goal.returns-then-wanted
returns-then-wanted c =
    let d = c.requires.0 in
    let k = c.if-records-i-ne2.false in
    λ doc t v p below.
    role_wanted _ _ _ _ _ _ d k _ c.index-item.ensures _ c.left_before-before.ensures.0 c.left_before-before.ensures.1 doc _ t below _
    (left_down _ _ _ _ _ _ d k _ c.index-item.ensures _ c.left_before-before.ensures.0 c.left_before-before.ensures.1 doc _ t _ p refl below _ c.left_after-here.ensures)
    _ c.owner_of-owner.ensures _ c.index.ensures c.if-records-index.false
    _ (c.wanted.ensures doc _ (sym (v.vkind.at _)) (sym (given w32 (omega arith) ∙ v.value.at _))) c.if-wanted.true

pub returns : goal.returns
returns c =
    let d = c.requires.0 in
    let k = c.if-records-i-ne2.false in
    λ doc t v p below.
    role_unwanted _ _ _ _ _ _ d k _ c.index-item.ensures _ c.left_before-before.ensures.0 c.left_before-before.ensures.1 doc _ t below _
    (left_down _ _ _ _ _ _ d k _ c.index-item.ensures _ c.left_before-before.ensures.0 c.left_before-before.ensures.1 doc _ t _ p refl below _ c.left_after-here.ensures)
    _ c.owner_of-owner.ensures _ c.index.ensures c.if-records-index.false
    _ (c.wanted.ensures doc _ (sym (v.vkind.at _)) (sym (given w32 (omega arith) ∙ v.value.at _))) c.if-wanted.false
