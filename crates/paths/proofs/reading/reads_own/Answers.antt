-- `paths::reading::reads_own` meets its contract, at each of its four answers.
use native.Mathlib.Omega.{arith}
use Rattle.meaning.proofs.Says.{says}
use Rattle.paths.proofs.Climbing.{tree-item, tree-above}
use Rattle.paths.proofs.Fielding.{own-chosen, own-other, own-apart, own-above}
use Rattle.paths.proofs.reading.reads_own.Goals as goal

pub returns-then-chosen-i-eq1 : goal.returns-then-chosen-i-eq1
returns-then-chosen-i-eq1 c =
    let h = c.requires in
    λ doc r t g w m. own-chosen _ _ _ _ doc r t g _ w m _ h.0 c.if-chosen-i-eq1.true

pub returns-then-field-records : goal.returns-then-field-records
returns-then-field-records c =
    let h = c.requires in
    λ doc r t g w m. own-other _ _ _ _ doc r t g _ w m _ h.0 c.if-chosen-i-eq1.false c.if-field-records.true

pub offset_bounds-records-item : goal.offset_bounds-records-item
offset_bounds-records-item c =
    let h = c.requires in
    let k = simp says at c.if-field-records.false in
    omega (arith, (tree-item _ _ _ h.2 _ k.1 _ c.index-item.ensures).0)

pub bounds-records-item : goal.bounds-records-item
bounds-records-item c =
    let h = c.requires in
    let k = simp says at c.if-field-records.false in
    omega (arith, (tree-item _ _ _ h.2 _ k.1 _ c.index-item.ensures).0)

pub returns-then-item-records : goal.returns-then-item-records
returns-then-item-records c =
    let h = c.requires in
    λ doc r t g w m. own-apart _ _ _ _ doc r t g _ w m _ h.0 c.if-chosen-i-eq1.false c.if-field-records.false _ c.index-item.ensures c.if-item-records.true

pub offset_bounds-records-item-2 : goal.offset_bounds-records-item-2
offset_bounds-records-item-2 c =
    let h = c.requires in
    let k = simp says at c.if-field-records.false in
    omega (arith, (tree-item _ _ _ h.2 _ k.1 _ c.index-item.ensures).1)

pub bounds-records-item-2 : goal.bounds-records-item-2
bounds-records-item-2 c =
    let h = c.requires in
    let k = simp says at c.if-field-records.false in
    (tree-item _ _ _ h.2 _ k.1 _ c.index-item.ensures).1

pub bounds-chosen-index : goal.bounds-chosen-index
bounds-chosen-index c =
    let h = c.requires in
    let k = simp says at c.if-field-records.false in
    let n = simp says at c.if-item-records.false in
    omega (arith, h.1, tree-above _ _ _ h.2 _ k.1 _ c.index-item.ensures n.0 _ c.index.ensures)

pub returns : goal.returns
returns c =
    let h = c.requires in
    let k = simp says at c.if-field-records.false in
    let n = simp says at c.if-item-records.false in
    let l = tree-above _ _ _ h.2 _ k.1 _ c.index-item.ensures n.0 _ c.index.ensures in
    λ doc r t g w m. own-above _ _ _ _ doc r t g _ w m _ h.0 c.if-chosen-i-eq1.false c.if-field-records.false _ c.index-item.ensures c.if-item-records.false _ c.index.ensures l
