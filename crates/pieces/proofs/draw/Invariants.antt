-- `pieces::draw` meets its contract: each turn ranks a record in its row, and draws its stretch.
use Prim.Native.Nat.{◌≤◌}
use lib.ListN.{length}
use Rattle.pieces.specs.Steps.{Drawn}
use Rattle.pieces.proofs.Ranking.{Ranks}
use Rattle.pieces.proofs.draw.Given as goal

abbrev pub invariant-loop-number : goal.invariant-loop-number
invariant-loop-number l =
    (l.n ≤ length l.drawn.from) × (l.n ≤ length l.drawn.to) × (l.n ≤ length l.drawn.sole)
    × Ranks l.order l.spans.key.now l.spans.hi.now l.n l.number-index l.rows.top l.rows.who l.rows.second
    × Drawn l.order l.spans.key.now l.spans.lo.now l.spans.hi.now l.n l.number-index l.drawn.from l.drawn.to l.drawn.sole
