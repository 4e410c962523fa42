-- `steps::places::class_places` meets its contract: below j each place has its class.
use mathlib.Core.Path.{◌≡◌}
use lib.ListN.{length, get_or}
use Rattle.prepare.proofs.Filling.{Filled}
use Rattle.groups.specs.Classes.{class_at}
use Rattle.steps.proofs.places.class_places.Given as goal

abbrev pub invariant-loop-j : goal.invariant-loop-j
invariant-loop-j l = (length l.out ≡ length l.initial.out) × Filled (λ k x. x ≡ class_at l.group l.n (get_or l.key (get_or l.order k 0) 0)) l.j l.out
