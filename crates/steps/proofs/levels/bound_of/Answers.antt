-- `steps::levels::bound_of` meets its contract, at each of its four answers.
use mir.Facts.{to_z-of_z}
use Rattle.steps.proofs.Raising.{bound_end, bound_begin, bound_value, bound_turned}
use Rattle.steps.proofs.levels.bound_of.Goals as goal

pub returns-then-which-eq-ENDS : goal.returns-then-which-eq-ENDS
returns-then-which-eq-ENDS c = bound_end _ _ _ _ _ c.if-which-eq-ENDS.true

pub returns-then-which-eq-BEGINS : goal.returns-then-which-eq-BEGINS
returns-then-which-eq-BEGINS c = bound_begin _ _ _ _ _ c.if-which-eq-ENDS.false c.if-which-eq-BEGINS.true

pub returns-then-which-eq-VALUES : goal.returns-then-which-eq-VALUES
returns-then-which-eq-VALUES c =
    let f = c.ranges in
    bound_value _ _ _ _ _ c.if-which-eq-ENDS.false c.if-which-eq-BEGINS.false _ _ _ _ _ c.raised.ensures.0 c.raised-then-which-eq-VALUES.ensures.0 c.if-which-eq-VALUES.true (to_z-of_z f.z) (to_z-of_z f.high) c.saturating_sub.ensures

pub returns : goal.returns
returns c =
    let f = c.ranges in
    bound_turned _ _ _ _ _ c.if-which-eq-ENDS.false c.if-which-eq-BEGINS.false _ _ _ _ _ c.raised-2.ensures.0 c.raised-3.ensures.0 c.if-which-eq-VALUES.false (to_z-of_z f.low) (to_z-of_z f.z) c.saturating_sub-2.ensures
