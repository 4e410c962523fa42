-- `counting::item::tally` meets its contract: for every row that the chain holds, the walk has come down to `at` and counted those above.
use mathlib.Core.Path.{◌≡◌}
use lib.ListN.{length}
use Rattle.counting.specs.Number.{UpTo}
use Rattle.day.specs.Along.{size, there, stands}
use Rattle.counting.proofs.Tallying.{Walked}
use Rattle.counting.proofs.item.tally.Given as goal

abbrev pub invariant-loop-at : goal.invariant-loop-at
invariant-loop-at l = (length l.seen ≡ length l.initial.seen) × UpTo l.token l.seen × Walked (there l.stretch) (size l.stretch) (stands l.stretch) l.distinct l.token l.past l.trail.lower.now l.at l.count l.seen

abbrev pub decreases-loop-at : goal.decreases-loop-at
decreases-loop-at l = l.at
