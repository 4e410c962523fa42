-- `crowds::sweep` meets its contract: before each record that takes part those that have ended by its begin are taken off, and it is then added.
use Prim.Native.Nat.{◌≤◌}
use lib.ListN.{length}
use Rattle.crowds.specs.Crowds.{Ordered}
use Rattle.crowds.proofs.Crowding.{Counted}
use Rattle.crowds.proofs.sweep.Given as goal

abbrev pub invariant-loop-number : goal.invariant-loop-number
invariant-loop-number l =
    (l.j ≤ length l.closes)
    × ((o : Ordered l.opens l.spans.lo.now l.spans.key.now l.n) (c : Ordered l.closes l.spans.hi.now l.spans.key.now l.n) → Counted l.opens l.closes l.spans.key.now l.spans.lo.now l.spans.hi.now l.n l.most o c l.number-index l.j l.tally)
