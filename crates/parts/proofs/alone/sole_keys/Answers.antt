-- `parts::alone::sole_keys` meets its contract: below i each record has its key.
use native.Mathlib.Omega.{arith}
use borrow.Author.Rules.{rules}
use lib.ListN.{length-set}
use Rattle.std.proofs.lemmas.Bool.Decides.{nat_tests}
use Rattle.prepare.proofs.Filling.{filled-store}
use Rattle.parts.proofs.alone.sole_keys.Goals as goal

pub loop-i-preserved : goal.loop-i-preserved
loop-i-preserved c =
    let s = c.loop-i.invariant in
    record { size = simp length-set s.size; keys = filled-store _ s.keys (search rules) _ (grind (arith, nat_tests)) }
