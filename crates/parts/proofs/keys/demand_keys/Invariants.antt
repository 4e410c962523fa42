-- `parts::keys::demand_keys` meets its contract: below i each record has its key.
use mathlib.Core.Path.{◌≡◌}
use mathlib.Core.Bool.{cond}
use Rattle.meaning.specs.Block.{limit}
use Rattle.marks.specs.Marks.{marked}
use Rattle.prepare.proofs.Filling.{Filled}
use Rattle.passes.specs.Passes.{at}
use Rattle.parts.proofs.keys.demand_keys.Given as goal

abbrev pub invariant-loop-i : goal.invariant-loop-i
invariant-loop-i l = Filled (λ k x. x ≡ cond (marked l.marks k) (at l.class k) limit) l.i l.out
