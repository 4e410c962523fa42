-- `groups::class_keys` meets its contract: below f each record has the class of its key.
use mathlib.Core.Path.{◌≡◌}
use lib.ListN.{length, get_or}
use Rattle.prepare.proofs.Filling.{Filled}
use Rattle.groups.specs.Classes.{class_at}
use Rattle.groups.proofs.class_keys.Given as goal

abbrev pub invariant-loop-f : goal.invariant-loop-f
invariant-loop-f l = (length l.out ≡ length l.initial.out) × Filled (λ k x. x ≡ class_at l.groups l.n (get_or l.key k 0)) l.f l.out
