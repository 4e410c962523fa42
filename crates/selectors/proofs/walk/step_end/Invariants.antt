-- `selectors::walk::step_end` meets its contract. The invariant: from here the step ends where it does from its start.
use mathlib.Core.Path.{◌≡◌}
use Prim.Native.Nat.{◌+◌, ◌≤◌}
use lib.ListN.{length, drop}
use Rattle.selectors.specs.Parts.{up_to}
use Rattle.selectors.proofs.walk.step_end.Given as goal

abbrev pub invariant-loop-end : goal.invariant-loop-end
invariant-loop-end l = (l.end ≤ length l.text) × (l.end + length (up_to 47 (drop l.end l.text)) ≡ l.at + length (up_to 47 (drop l.at l.text)))
