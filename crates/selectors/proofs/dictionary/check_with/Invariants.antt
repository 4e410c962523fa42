-- `selectors::dictionary::check_with` meets its contract. The loop's invariant: what came of the classes below this one.
use mathlib.Core.Path.{◌≡◌}
use lib.ListN.{length}
use Rattle.selectors.specs.Lining.{checked_for}
use Rattle.selectors.proofs.Classes.{below}
use Rattle.selectors.proofs.dictionary.check_with.Given as goal

abbrev pub invariant-loop-class : goal.invariant-loop-class
invariant-loop-class l = (length l.sieve ≡ length l.initial.sieve) × (l.all ≡ checked_for (below l.class l.classes) l.d)
