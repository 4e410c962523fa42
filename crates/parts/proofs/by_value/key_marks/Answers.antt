-- `parts::by_value::key_marks` meets its contract: below i each record has its mark.
use native.Mathlib.Omega.{arith}
use borrow.Author.Rules.{rules}
use lib.ListN.{length-set}
use Rattle.std.proofs.lemmas.Bool.Decides.{nat_tests}
use Rattle.prepare.proofs.Filling.{filled-store}
use Rattle.parts.proofs.by_value.key_marks.Goals as goal

pub loop-i-preserved : goal.loop-i-preserved
loop-i-preserved c =
    let s = c.loop-i.invariant in
    record { size = simp length-set s.size; marks = filled-store _ s.marks (search rules) _ (grind (arith, nat_tests)) }
