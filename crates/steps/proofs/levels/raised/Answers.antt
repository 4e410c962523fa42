-- `steps::levels::raised` meets its contract, from 0 up and below 0.
use native.Mathlib.Omega.{arith}
use mathlib.Core.Path.{sym, ◌∙◌, ap}
use lib.Signed.{mag}
use mir.Facts.{to_z-of_z}
use Rattle.steps.proofs.Raising.{raised-up, raised-down}
use Rattle.steps.proofs.levels.raised.Goals as goal

pub returns-then-at_least_zero : goal.returns-then-at_least_zero
returns-then-at_least_zero c =
    let f = c.ranges.z in
    raised-up _ _ _ _ c.magnitude-size.ensures (to_z-of_z f) (sym c.at_least_zero.ensures ∙ c.if-at_least_zero.true) (to_z-of_z f) f.sfits

pub overflow_sub-result : goal.overflow_sub-result
overflow_sub-result c =
    let f = c.ranges.z in
    omega (arith, c.magnitude-size.ensures, ap mag (to_z-of_z f), f.sfits)

pub returns : goal.returns
returns c =
    let f = c.ranges.z in
    raised-down _ _ _ _ c.magnitude-size.ensures (to_z-of_z f) (sym c.at_least_zero.ensures ∙ c.if-at_least_zero.false) (to_z-of_z f) f.sfits
