-- `steps::places::later_ends` meets its contract: below f each record has the end at the later of its two places.
use mathlib.Core.Path.{refl}
use native.Mathlib.Omega.{arith}
use lib.ListN.{get_or, length-set}
use Rattle.prepare.proofs.Filling.{filled_none, filled-store}
use Rattle.steps.proofs.Placing.{end-later}
use Rattle.steps.proofs.places.later_ends.Goals as goal

pub loop-f-init : goal.loop-f-init
loop-f-init c = (refl, filled_none _ _)

pub end_at-requires : goal.end_at-requires
end_at-requires c =
    let p = c.requires in
    (omega (arith, p.4 c.loop-f.f (omega arith), p.5 c.loop-f.f (omega arith)), p.3)

pub bounds-out-f : goal.bounds-out-f
bounds-out-f c = let p = c.requires in omega (arith, p.0)

pub loop-f-preserved : goal.loop-f-preserved
loop-f-preserved c =
    let p = c.requires in
    let a = c.args in
    (simp length-set c.loop-f.invariant.0, filled-store _ c.loop-f.invariant.1 (omega (arith, p.0)) _ (end-later _ _ (get_or a.above.now c.loop-f.f 0) (get_or a.beneath.now c.loop-f.f 0) _ c.end_at.ensures (omega arith)))

pub returns : goal.returns
returns c = (c.loop-f.invariant.0, λ j h. c.loop-f.invariant.1.entry j (omega arith))
