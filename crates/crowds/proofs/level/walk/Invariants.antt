-- `crowds::level::walk` meets its contract: the next begin joins if it comes before the next end, which leaves otherwise.
use Prim.Native.Nat.{ℕ, ◌+◌, ◌-◌}
use lib.ListN.{length}
use Rattle.crowds.specs.Crowds.{Ordered}
use Rattle.crowds.proofs.Leveling.{Level}
use Rattle.crowds.proofs.level.walk.Given as goal

abbrev pub invariant-loop-j : goal.invariant-loop-j
invariant-loop-j l =
    (o : Ordered l.opens l.spans.lo.now l.spans.key.now l.n) (c : Ordered l.closes l.spans.hi.now l.spans.key.now l.n) →
    (p : ℕ) × Level l.opens l.closes l.spans.key.now l.spans.lo.now l.spans.hi.now l.n l.least o c l.i l.j p l.tally l.opener l.until

abbrev pub decreases-loop-j : goal.decreases-loop-j
decreases-loop-j l = (length l.opens - l.i) + (length l.closes - l.j)
