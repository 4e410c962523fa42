-- `twins::days::lie_apart` meets its contract: the positions below k lie apart.
use mathlib.Core.Path.{◌≡◌}
use lib.ListN.{length}
use Rattle.meaning.specs.Block.{limit}
use Rattle.twins.proofs.Sweeping.{Sweep}
use Rattle.twins.proofs.days.lie_apart.Given as goal

abbrev pub invariant-loop-k : goal.invariant-loop-k
invariant-loop-k l = (length l.reach ≡ limit) × Sweep l.of.records.kind.now l.of.records.parent.now l.of.records.begin.now l.of.records.end.now l.of.class.now l.order l.m l.k l.reach
