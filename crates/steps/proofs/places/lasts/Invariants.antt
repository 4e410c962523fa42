-- `steps::places::lasts` meets its contract: below f each record has the last place of its class.
use mathlib.Core.Path.{◌≡◌}
use lib.ListN.{length, get_or}
use Rattle.prepare.proofs.Filling.{Filled}
use Rattle.groups.specs.Classes.{class_at}
use Rattle.steps.proofs.places.lasts.Given as goal

abbrev pub invariant-loop-f : goal.invariant-loop-f
invariant-loop-f l = (length l.out ≡ length l.initial.out) × Filled (λ k x. x ≡ get_or l.last (class_at l.group l.n (get_or l.key k 0)) 0) l.f l.out
