-- `parts::keys::demand_keys` meets its contract: below i each record has its key.
use native.Mathlib.Omega.{arith}
use borrow.Author.Rules.{rules}
use Rattle.std.proofs.lemmas.Bool.Decides.{nat_tests}
use Rattle.prepare.proofs.Filling.{filled-store}
use Rattle.parts.proofs.keys.demand_keys.Goals as goal

pub loop-i-preserved : goal.loop-i-preserved
loop-i-preserved c = filled-store _ c.loop-i.invariant (search rules) _ (grind (arith, nat_tests))
