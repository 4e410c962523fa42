-- `groups::class_keys` meets its contract: below f each record has the class of its key.
use mathlib.Core.Path.{refl}
use native.Mathlib.Omega.{arith}
use lib.ListN.{length-set}
use Rattle.prepare.proofs.Filling.{filled_none, filled-store}
use Rattle.groups.proofs.class_keys.Goals as goal

pub loop-f-init : goal.loop-f-init
loop-f-init c = (refl, filled_none _ _)

pub loop-f-preserved : goal.loop-f-preserved
loop-f-preserved c =
    let s = c.loop-f in
    (simp length-set s.invariant.0, filled-store _ s.invariant.1 (omega arith) _ c.class_at.ensures)

pub returns : goal.returns
returns c = let s = c.loop-f in λ f h. s.invariant.1.entry f (omega arith)
