-- `picking::read_marks` meets its contract: below i each record has its mark.
use mathlib.Core.Path.{◌≡◌, refl}
use mathlib.Core.Bool.{Bool, true, false}
use borrow.Author.Rules.{rules}
use lib.Dec.{eqb}
use Rattle.std.specs.Int.{from_bool}
use Rattle.prepare.proofs.Filling.{filled-store}
use Rattle.picking.specs.Picked.{is_read}
use Rattle.picking.proofs.read_marks.Goals as goal

-- the mark of a test is 1 exactly when it passed
mark_is : (b : Bool) → eqb (from_bool b) 1 ≡ b
mark_is true = refl
mark_is false = refl

pub loop-i-preserved : goal.loop-i-preserved
unfolding is_read
loop-i-preserved c = filled-store _ c.loop-i.invariant (search rules) _ (rw c.from.ensures (mark_is _))
