-- `selectors::dictionary::check_by` meets its contract. The loop's invariant is `Upto`: the lines above are good, and their keys of the class are in the sieve.
use mathlib.Core.Path.{◌≡◌}
use Prim.Native.Nat.{◌-◌}
use lib.ListN.{length}
use Rattle.selectors.specs.Lining.{of_class}
use Rattle.selectors.proofs.Checking.{Upto}
use Rattle.selectors.proofs.dictionary.check_by.Given as goal

abbrev pub invariant-loop-at : goal.invariant-loop-at
invariant-loop-at l = (length l.sieve ≡ length l.initial.sieve) × Upto (of_class l.class l.classes) l.d l.at l.k l.sieve

abbrev pub decreases-loop-at : goal.decreases-loop-at
decreases-loop-at l = length l.d - l.at
