-- `values::keys` meets its contract: below i each value has its key.
use mathlib.Core.Path.{◌≡◌}
use mathlib.Core.List.{map}
use lib.Signed.{mag}
use lib.ListN.{length}
use Rattle.meaning.specs.Block.{limit}
use Rattle.columns.proofs.Linking.{Keys}
use Rattle.values.proofs.keys.Given as goal

abbrev pub invariant-loop-i : goal.invariant-loop-i
invariant-loop-i l = (length l.key ≡ limit) × Keys limit (map mag l.value) l.i l.key
