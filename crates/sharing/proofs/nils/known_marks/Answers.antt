-- `sharing::nils::known_marks` meets its contract: below i each record has its mark.
use mathlib.Core.Path.{◌≡◌, refl, ap, ◌∙◌}
use mathlib.Core.Bool.{Bool, true, false}
use lib.Dec.{eqb}
use mir.Val.{bool_byte}
use native.Mathlib.Omega.{arith}
use lib.ListN.{length-set}
use Rattle.prepare.proofs.Filling.{filled_none, filled-store}
use Rattle.sharing.proofs.nils.known_marks.Goals as goal

-- a test is told by the mark that it is turned into
bit : (b : Bool) → eqb (bool_byte b) 1 ≡ b
bit true = refl
bit false = refl

pub loop-i-init : goal.loop-i-init
loop-i-init c = (refl, filled_none _ _)

pub loop-i-preserved : goal.loop-i-preserved
loop-i-preserved c =
    let s = c.loop-i.invariant in
    (simp length-set s.0, filled-store _ s.1 (omega (arith, s.0)) _ (ap (λ x. eqb x 1) c.from.ensures ∙ bit _))

pub returns : goal.returns
returns c = let s = c.loop-i.invariant in (s.0, λ y h. s.1.entry y (omega arith))
