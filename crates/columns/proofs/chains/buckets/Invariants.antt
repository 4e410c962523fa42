-- `columns::chains::buckets` meets its contract: below i each number has its key.
use mathlib.Core.Path.{◌≡◌}
use lib.ListN.{length}
use Rattle.meaning.specs.Block.{limit}
use Rattle.columns.proofs.Linking.{Keys}
use Rattle.columns.proofs.chains.buckets.Given as goal

abbrev pub invariant-loop-i : goal.invariant-loop-i
invariant-loop-i l = (length l.key ≡ limit) × Keys limit l.item l.i l.key
