-- `steps::mark_reaching` meets its contract: below i each record has its mark.
use mathlib.Core.Path.{◌≡◌, refl, ap, ◌∙◌}
use mathlib.Core.Bool.{Bool, true, false}
use native.Mathlib.Omega.{arith}
use lib.Dec.{eqb}
use mir.Val.{bool_byte}
use lib.ListN.{length-set}
use Rattle.prepare.proofs.Filling.{filled_none, filled-store, filled-marks}
use Rattle.steps.proofs.mark_reaching.Goals as goal

mark-byte : (b : Bool) → eqb (bool_byte b) 1 ≡ b
mark-byte true = refl
mark-byte false = refl

pub loop-i-init : goal.loop-i-init
loop-i-init c = (refl, filled_none _ _)

pub loop-i-preserved : goal.loop-i-preserved
loop-i-preserved c =
    let s = c.loop-i in
    (simp length-set s.invariant.0, filled-store _ s.invariant.1 (omega arith) _ (ap (λ x. eqb x 1) c.from.ensures ∙ mark-byte _))

pub returns : goal.returns
returns c = filled-marks _ _ _ _ c.loop-i.invariant.1 (omega arith) (omega arith)
