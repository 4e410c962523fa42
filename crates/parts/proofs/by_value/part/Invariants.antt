-- `parts::by_value::part` meets its contract: below i each record has its key, its begin and its mark.
use mathlib.Core.Path.{◌≡◌}
use mathlib.Core.Bool.{◌||◌, cond}
use lib.Dec.{eqb, ltb}
use Rattle.meaning.specs.Block.{limit}
use Rattle.marks.specs.Marks.{marked}
use Rattle.prepare.proofs.Filling.{Filled}
use Rattle.passes.specs.Passes.{at}
use Rattle.parts.proofs.by_value.part.Given as goal

abbrev pub invariant-loop-i : goal.invariant-loop-i
invariant-loop-i l =
    record {
      keys : Filled (λ k x. x ≡ cond (marked l.marks k) limit (at l.key k)) l.i l.supply;
      begins : Filled (λ k x. x ≡ cond (marked l.marks k) (at l.lo k) (at l.first k)) l.i l.from;
      kinds : Filled (λ k x. eqb x 2 ≡ (marked l.marks k || ltb (at l.key k) l.n)) l.i l.kinds;
    }
