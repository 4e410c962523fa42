-- `soonest::stepping::earlier_days` meets its contract: below i each record has the earlier of its days.
use mathlib.Core.Path.{◌≡◌}
use lib.ListN.{length}
use Rattle.meaning.specs.Window.{least}
use Rattle.prepare.proofs.Filling.{Filled}
use Rattle.passes.specs.Passes.{at}
use Rattle.soonest.proofs.stepping.earlier_days.Given as goal

abbrev pub invariant-loop-i : goal.invariant-loop-i
invariant-loop-i l = (length l.out ≡ length l.initial.out) × Filled (λ k x. x ≡ least (at l.one k) (at l.other k)) l.i l.out
