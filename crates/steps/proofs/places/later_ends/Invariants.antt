-- `steps::places::later_ends` meets its contract: below f each record has the end at the later of its two places.
use mathlib.Core.Path.{◌≡◌}
use lib.ListN.{length, get_or}
use Rattle.prepare.proofs.Filling.{Filled}
use Rattle.steps.specs.Greatest.{greater}
use Rattle.steps.specs.Places.{end_at}
use Rattle.steps.proofs.places.later_ends.Given as goal

abbrev pub invariant-loop-f : goal.invariant-loop-f
invariant-loop-f l = (length l.out ≡ length l.initial.out) × Filled (λ k x. x ≡ end_at l.end l.order (greater (get_or l.above k 0) (get_or l.beneath k 0))) l.f l.out
