-- `steps::places::answers` meets its contract: below f each record has its reach.
use mathlib.Core.Path.{refl}
use native.Mathlib.Omega.{arith}
use lib.ListN.{length-set}
use Rattle.prepare.proofs.Filling.{filled_none, filled-store}
use Rattle.steps.proofs.places.answers.Goals as goal

pub loop-f-init : goal.loop-f-init
loop-f-init c = (refl, filled_none _ _)

pub bounds-out-f : goal.bounds-out-f
bounds-out-f c = let p = c.requires in omega (arith, p.0)

pub loop-f-preserved : goal.loop-f-preserved
loop-f-preserved c =
    let p = c.requires in
    (simp length-set c.loop-f.invariant.0, filled-store _ c.loop-f.invariant.1 (omega (arith, p.0)) _ c.settled.ensures)

pub returns : goal.returns
returns c = (c.loop-f.invariant.0, λ j h. c.loop-f.invariant.1.entry j (omega arith))
