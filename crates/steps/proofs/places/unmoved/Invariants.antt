-- `steps::places::unmoved` meets its contract: below f each record has its reach.
use mathlib.Core.Path.{◌≡◌}
use lib.ListN.{length, get_or}
use Rattle.prepare.proofs.Filling.{Filled}
use Rattle.steps.specs.Places.{settled_as}
use Rattle.steps.proofs.places.unmoved.Given as goal

abbrev pub invariant-loop-f : goal.invariant-loop-f
invariant-loop-f l = (length l.out ≡ length l.initial.out) × Filled (λ k x. x ≡ settled_as (get_or l.key k 0) (length l.vkind) (get_or l.vkind k 0) 0 0) l.f l.out
