-- `parts::by_value::key_marks` meets its contract: below i each record has its mark.
use mathlib.Core.Path.{◌≡◌}
use lib.Dec.{eqb, ltb}
use lib.ListN.{length}
use Rattle.prepare.proofs.Filling.{Filled}
use Rattle.passes.specs.Passes.{at}
use Rattle.parts.proofs.by_value.key_marks.Given as goal

abbrev pub invariant-loop-i : goal.invariant-loop-i
invariant-loop-i l = record { size : length l.out ≡ length l.initial.out; marks : Filled (λ k x. eqb x 2 ≡ ltb (at l.key k) l.n) l.i l.out }
