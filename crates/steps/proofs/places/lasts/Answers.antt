-- `steps::places::lasts` meets its contract: below f each record has the last place of its class.
use mathlib.Core.Path.{refl, ◌∙◌, ap}
use native.Mathlib.Omega.{arith}
use lib.ListN.{get_or, length-set}
use Rattle.prepare.proofs.Filling.{filled_none, filled-store}
use Rattle.steps.proofs.places.lasts.Goals as goal

pub loop-f-init : goal.loop-f-init
loop-f-init c = (refl, filled_none _ _)

pub loop-f-preserved : goal.loop-f-preserved
loop-f-preserved c =
    let p = c.requires in
    (simp length-set c.loop-f.invariant.0, filled-store _ c.loop-f.invariant.1 (omega (arith, p.0)) _ (c.last_of.ensures ∙ ap (λ x. get_or c.args.last.now x 0) c.class_of_key.ensures))

pub returns : goal.returns
returns c = (c.loop-f.invariant.0, λ j h. c.loop-f.invariant.1.entry j (omega arith))
