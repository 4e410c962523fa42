-- `prepare::fields::holder` meets its contract, at each of its four answers.
use native.Mathlib.Omega.{arith}
use Rattle.prepare.proofs.Holding.{tree-few, item-here, held-self, held-no_version, held-other_name, held-above}
use Rattle.prepare.proofs.fields.holder.Goals as goal

pub returns-then-field-eq0 : goal.returns-then-field-eq0
returns-then-field-eq0 c =
    let g = c.requires.1 in
    λ doc rule t w. held-self _ _ _ doc rule t (tree-few _ _ _ g) _ w _ c.if-field-eq0.true

pub returns-then-records-f-ne2 : goal.returns-then-records-f-ne2
returns-then-records-f-ne2 c =
    let g = c.requires.1 in
    λ doc rule t w. held-no_version _ _ _ doc rule t (tree-few _ _ _ g) _ w _ c.if-field-eq0.false c.if-records-f-ne2.true

pub offset_bounds-records-item : goal.offset_bounds-records-item
offset_bounds-records-item c =
    omega (arith, (item-here _ _ _ c.requires.1 _ _ c.if-records-f-ne2.false c.index-item.ensures).0)

pub bounds-records-item : goal.bounds-records-item
bounds-records-item c =
    omega (arith, (item-here _ _ _ c.requires.1 _ _ c.if-records-f-ne2.false c.index-item.ensures).0)

pub returns-then-records-item : goal.returns-then-records-item
returns-then-records-item c =
    let g = c.requires.1 in
    λ doc rule t w. held-other_name _ _ _ doc rule t (tree-few _ _ _ g) _ w _ c.if-field-eq0.false c.if-records-f-ne2.false _ c.index-item.ensures c.if-records-item.true

pub offset_bounds-records-item-2 : goal.offset_bounds-records-item-2
offset_bounds-records-item-2 c =
    omega (arith, (item-here _ _ _ c.requires.1 _ _ c.if-records-f-ne2.false c.index-item.ensures).1)

pub bounds-records-item-2 : goal.bounds-records-item-2
bounds-records-item-2 c =
    omega (arith, (item-here _ _ _ c.requires.1 _ _ c.if-records-f-ne2.false c.index-item.ensures).1)

pub returns : goal.returns
returns c =
    let g = c.requires.1 in
    λ doc rule t w. held-above _ _ _ doc rule t (tree-few _ _ _ g) _ w _ c.if-field-eq0.false c.if-records-f-ne2.false _ c.index-item.ensures c.if-records-item.false
