-- `selectors::dictionary::run_end` meets its contract. The invariant: the run from the place reached on ends where the whole run does.
use mathlib.Core.Path.{◌≡◌}
use Prim.Native.Nat.{◌+◌, ◌≤◌, max}
use lib.ListN.{length, drop}
use Rattle.selectors.specs.Lining.{run}
use Rattle.selectors.proofs.dictionary.run_end.Given as goal

abbrev pub invariant-loop-end : goal.invariant-loop-end
invariant-loop-end l = (l.end ≤ max l.at (length l.d)) × (l.end + run (drop l.end l.d) ≡ l.at + run (drop l.at l.d))
