-- `steps::sweep::sought` meets its contract: the levels, the stacks and the searches are what it asks for.
use native.Mathlib.Omega.{arith}
use mir.Facts.{to_z-of_z}
use Rattle.steps.proofs.Levelling.{sought_by}
use Rattle.steps.proofs.sweep.sought.Goals as goal

pub levels-level-requires : goal.levels-level-requires
levels-level-requires c =
    let p = c.requires in
    (omega (arith, p.vkind), omega (arith, p.vkind, p.begin), omega (arith, p.vkind, p.end), rw p.vkind p.placed)

pub returns : goal.returns
returns c =
    sought_by _ _ _ _ _ _ _ _ _ _ _ _ _ _ _ _ _ (to_z-of_z c.ranges.low) (to_z-of_z c.ranges.high) c.requires c.levels-level.ensures c.stack-stacks.ensures c.ask.ensures
