-- `steps::levels::levels` meets its contract: below j each place has its level.
use mathlib.Core.Path.{refl}
use native.Mathlib.Omega.{arith}
use lib.ListN.{length-set}
use Rattle.prepare.proofs.Filling.{filled_none, filled-store}
use Rattle.steps.proofs.Levelling.{level-is, filled-levelled}
use Rattle.steps.proofs.levels.levels.Goals as goal

pub loop-j-init : goal.loop-j-init
loop-j-init c = (refl, filled_none _ _)

pub level_at-requires : goal.level_at-requires
level_at-requires c =
    let p = c.requires in
    (omega (arith, c.index.ensures, p.3.here c.loop-j.j (omega arith)), p.0, p.1, p.2)

pub bounds-out-j : goal.bounds-out-j
bounds-out-j c = let p = c.requires in omega (arith, p.3.few)

pub loop-j-preserved : goal.loop-j-preserved
loop-j-preserved c =
    let p = c.requires in
    let e = c.level_at.ensures in
    (simp length-set c.loop-j.invariant.0, filled-store _ c.loop-j.invariant.1 (omega (arith, p.3.few)) _ (level-is _ _ _ _ _ _ _ _ _ c.index.ensures e.0 e.1))

pub returns : goal.returns
returns c = let p = c.requires in filled-levelled _ _ _ _ _ _ _ _ c.loop-j.invariant.1 (omega arith) (omega (arith, p.3.few))
