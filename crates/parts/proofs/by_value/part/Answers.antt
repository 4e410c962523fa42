-- `parts::by_value::part` meets its contract: below i each record has its key, its begin and its mark.
use native.Mathlib.Omega.{arith}
use Rattle.std.proofs.lemmas.Bool.Decides.{nat_tests}
use Rattle.prepare.proofs.Filling.{filled-store}
use Rattle.parts.proofs.by_value.part.Goals as goal

pub loop-i-preserved : goal.loop-i-preserved
loop-i-preserved c =
    let s = c.loop-i.invariant in
    record {
      keys = filled-store _ s.keys (omega arith) _ (grind (arith, nat_tests));
      begins = filled-store _ s.begins (omega arith) _ (grind (arith, nat_tests));
      kinds = filled-store _ s.kinds (omega arith) _ (grind (arith, nat_tests));
    }
