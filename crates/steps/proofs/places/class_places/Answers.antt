-- `steps::places::class_places` meets its contract: below j each place has its class.
use mathlib.Core.Path.{refl, ◌∙◌, ap}
use native.Mathlib.Omega.{arith}
use lib.ListN.{get_or, length-set}
use Rattle.prepare.proofs.Filling.{filled_none, filled-store}
use Rattle.groups.specs.Classes.{class_at}
use Rattle.steps.proofs.places.class_places.Goals as goal

pub loop-j-init : goal.loop-j-init
loop-j-init c = (refl, filled_none _ _)

pub class_of_key-requires : goal.class_of_key-requires
class_of_key-requires c =
    let p = c.requires in
    (omega (arith, c.index.ensures, p.2.here c.loop-j.j (omega arith)), p.0, p.1)

pub bounds-out-j : goal.bounds-out-j
bounds-out-j c = let p = c.requires in omega (arith, p.2.few)

pub loop-j-preserved : goal.loop-j-preserved
loop-j-preserved c =
    let p = c.requires in
    (simp length-set c.loop-j.invariant.0, filled-store _ c.loop-j.invariant.1 (omega (arith, p.2.few)) _ (c.class_of_key.ensures ∙ ap (λ x. class_at c.args.group.now c.args.n (get_or c.args.key.now x 0)) c.index.ensures))

pub returns : goal.returns
returns c = (c.loop-j.invariant.0, λ j h. c.loop-j.invariant.1.entry j (omega arith))
