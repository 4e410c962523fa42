-- `soonest::stepping::earlier_days` meets its contract: below i each record has the earlier of its days.
use mathlib.Core.Path.{refl, ◌∙◌}
use native.Mathlib.Omega.{arith}
use borrow.Author.Rules.{rules}
use lib.ListN.{length-set}
use Rattle.prepare.proofs.Filling.{filled_none, filled-store}
use Rattle.places.proofs.Days.{least_min}
use Rattle.soonest.proofs.stepping.earlier_days.Goals as goal

pub loop-i-init : goal.loop-i-init
loop-i-init c = (refl, filled_none _ _)

pub loop-i-preserved : goal.loop-i-preserved
loop-i-preserved c = let s = c.loop-i in (simp length-set s.invariant.0, filled-store _ s.invariant.1 (search rules) _ (c.min.ensures ∙ least_min _ _))

pub returns : goal.returns
returns c = let s = c.loop-i in record { room = search rules; day = λ x h. s.invariant.1.entry x (omega arith) }
