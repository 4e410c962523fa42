-- `document::placing::first_misplaced` meets its contract. The invariant: every version below i was placed, and `last` has the last end for each item.
-- Assumes nothing.
use Prim.Native.Nat.{◌≤◌}
use mathlib.Core.Path.{◌≡◌}
use lib.ListN.{length}
use Rattle.document.specs.Steady.{periods_in}
use Rattle.document.proofs.Ends.{Pass}
use Rattle.document.proofs.placing.first_misplaced.Given as goal

abbrev pub invariant-loop-i : goal.invariant-loop-i
invariant-loop-i l = (length l.last ≡ length l.initial.last) × (length l.records.kind.now ≤ length l.last) × Pass (periods_in l.records) l.last l.i
