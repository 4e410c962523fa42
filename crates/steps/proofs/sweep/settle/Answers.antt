-- `steps::sweep::settle` meets its contract: the three searches, and what is read off after them.
use native.Mathlib.Omega.{arith}
use mir.Facts.{to_z-of_z}
use Rattle.steps.proofs.Levelling.{sweepable_days, sweepable_placed, sought_low, settled_by}
use Rattle.steps.proofs.sweep.settle.Goals as goal

pub later_ends-until-requires : goal.later_ends-until-requires
later_ends-until-requires c =
    let p = c.requires.0 in
    let few = p.few in (
      few,
      omega arith,
      omega arith,
      sweepable_placed _ _ _ _ _ _ _ _ p,
      sought_low _ _ _ _ _ _ _ _ p _ _ _ _ c.sought-above.ensures,
      sought_low _ _ _ _ _ _ _ _ p _ _ _ _ c.sought-beneath.ensures,
    )

pub sought-parting-requires : goal.sought-parting-requires
sought-parting-requires c =
    let p = c.requires.0 in
    let few = p.few in
    sweepable_days _ _ _ _ _ _ _ _ p _ (omega (arith, c.later_ends-until.ensures.0))

pub answers-requires : goal.answers-requires
answers-requires c =
    let p = c.requires in
    let few = p.0.few in
    let n = p.0.vkind in (
      omega arith,
      omega (arith, p.1),
      omega (arith, c.later_ends-until.ensures.0),
      omega arith,
    )

pub returns : goal.returns
returns c =
    settled_by _ _ _ _ _ _ _ _ _ _ _ _ _ _ _ _ _ (to_z-of_z c.ranges.low) (to_z-of_z c.ranges.high) c.requires.0.vkind c.answers.ensures.0
    c.sought-above.ensures c.sought-beneath.ensures c.later_ends-until.ensures.1 c.sought-parting.ensures c.answers.ensures.1
