-- `distinct::shifts::firsts` meets its contract: each turn gives the next record of the order its place.
use mathlib.Core.Path.{◌≡◌}
use mathlib.Core.Bool.{false}
use lib.ListN.{length}
use Rattle.meaning.specs.Block.{limit}
use Rattle.distinct.proofs.Shifting.{Run, Still}
use Rattle.distinct.proofs.shifts.firsts.Given as goal

abbrev pub invariant-loop-number : goal.invariant-loop-number
invariant-loop-number l =
    (length l.top ≡ limit) × (length l.first ≡ limit) × Run l.order l.spans.key.now l.spans.lo.now l.spans.hi.now l.n l.number-index l.top l.first
    × (l.raised ≡ false → Still l.order l.spans.key.now l.spans.lo.now l.spans.hi.now l.n l.number-index l.first)
