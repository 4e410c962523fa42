-- `selectors::walk::fill` meets its contract. The invariant: the numbers of the steps that were looked up stand in the path, and those that are left begin here.
use mathlib.Core.Path.{ap, sym, ◌∙◌}
use Prim.Native.Nat.{◌<◌}
use native.Mathlib.Omega.{arith}
use lib.ListN.{length, length-set}
use Rattle.selectors.proofs.Filling.{filling_none, filling_room, filling_unknown, filling_last, filling_more}
use Rattle.selectors.proofs.walk.fill.Goals as goal
use Rattle.selectors.proofs.walk.fill.Goals.{Else-number-eq0}

-- there is room for the number of the step
abbrev room : (c : Else-number-eq0) → c.loop-count.k < 8
room c = filling_room c.loop-count.invariant c.requires.1

pub loop-count-init : goal.loop-count-init
loop-count-init c = filling_none _ _ c.requires.2

pub shape_of-path-then-number-eq0 : goal.shape_of-path-then-number-eq0
shape_of-path-then-number-eq0 c = c.loop-count.invariant.long ∙ sym (ap length c.requires.2)

pub returns-then-number-eq0 : goal.returns-then-number-eq0
returns-then-number-eq0 c =
    filling_unknown c.loop-count.invariant c.step_end-end.ensures.0 c.step_number-number.ensures c.requires.0.sound c.if-number-eq0.true

pub offset_bounds-path-k : goal.offset_bounds-path-k
offset_bounds-path-k c = record { fits = omega (arith, room (goal.at.offset_bounds-path-k c).Else-number-eq0) }

pub bounds-path-k : goal.bounds-path-k
bounds-path-k c = omega (arith, room (goal.at.bounds-path-k c).Else-number-eq0, c.loop-count.invariant.long)

pub overflow_add-k : goal.overflow_add-k
overflow_add-k c = record { fits = omega (arith, room (goal.at.overflow_add-k c).Else-number-eq0) }

pub shape_of-path-then-end-text : goal.shape_of-path-then-end-text
shape_of-path-then-end-text c =
    let l = c.loop-count in
    length-set l.path l.k c.step_number-number.result ∙ l.invariant.long ∙ sym (ap length c.requires.2)

pub returns-then-end-text : goal.returns-then-end-text
returns-then-end-text c =
    let pre = c.requires in
    filling_last c.loop-count.invariant c.step_end-end.ensures.0 c.step_number-number.ensures pre.0.sound pre.1 c.if-number-eq0.false c.if-end-text.true

pub loop-count-preserved : goal.loop-count-preserved
loop-count-preserved c =
    let pre = c.requires in
    let ends = c.step_end-end.ensures in
    filling_more c.loop-count.invariant ends.0 c.step_number-number.ensures pre.0.sound pre.1 c.if-number-eq0.false (omega (arith, c.if-end-text.false, ends.1))
