-- `groups::class_of` meets its contract: for an item, for a version, and for neither.
use native.Mathlib.Omega.{arith}
use Rattle.groups.proofs.Classing.{class-neither, class_of-parent}
use Rattle.groups.proofs.class_of.Goals as goal

pub offset_bounds-class-above : goal.offset_bounds-class-above
offset_bounds-class-above c =
    let p = c.requires in
    omega (arith, p.0.nested.lower _ c.if-nest-i-eq2.true, c.index-above.ensures)

pub bounds-class-above : goal.bounds-class-above
bounds-class-above c =
    let p = c.requires in
    omega (arith, p.0.nested.lower _ c.if-nest-i-eq2.true, c.index-above.ensures)

pub returns-then-nest-i-eq2 : goal.returns-then-nest-i-eq2
returns-then-nest-i-eq2 c =
    let p = c.requires in
    class_of-parent _ _ _ p.0.nested _ c.if-nest-i-eq2.true _ p.3 _ c.index-above.ensures

pub returns : goal.returns
returns c = class-neither _ _ c.if-nest-i-eq1.false c.if-nest-i-eq2.false
