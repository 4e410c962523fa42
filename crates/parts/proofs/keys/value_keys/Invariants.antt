-- `parts::keys::value_keys` meets its contract: below i each record has its key.
use mathlib.Core.Path.{◌≡◌}
use mathlib.Core.Bool.{cond}
use lib.Dec.{ltb}
use Rattle.meaning.specs.Block.{limit}
use Rattle.prepare.proofs.Filling.{Filled}
use Rattle.passes.specs.Passes.{at}
use Rattle.parts.proofs.keys.value_keys.Given as goal

abbrev pub invariant-loop-i : goal.invariant-loop-i
invariant-loop-i l = Filled (λ k x. x ≡ cond (ltb (at l.row k) l.n) (at l.rep k) limit) l.i l.out
