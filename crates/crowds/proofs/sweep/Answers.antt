-- `crowds::sweep` meets its contract: before each record that takes part those that have ended by its begin are taken off, and it is then added.
use native.Mathlib.Omega.{arith}
use borrow.Author.Rules.{rules}
use Rattle.meaning.proofs.Says.{says}
use Rattle.crowds.proofs.Ends.{room-kept}
use Rattle.crowds.proofs.Crowding.{counted_none, counted_skip, counted-ends, counted-fits, counted-more, counted-hit, counted-end}
use Rattle.crowds.proofs.sweep.Goals as goal
use Rattle.crowds.proofs.sweep.Goals.{then-a-b+else-most-index, else-a-b}

pub loop-number-init : goal.loop-number-init
loop-number-init c = (search rules, λ o c'. counted_none _ _ _ _ _ _ _ o c' _ c.requires.4)

pub endings-j-requires : goal.endings-j-requires
endings-j-requires c = (c.requires.1, room-kept c.requires.2 (search rules), c.loop-number.invariant.0)

pub returns-then-most-index : goal.returns-then-most-index
returns-then-most-index c =
    counted-hit _ _ _ _ _ _ _ c.requires.0 c.requires.1 _ _ _ (c.loop-number.invariant.1 c.requires.0 c.requires.1) (omega arith) _ c.index-x.ensures

pub overflow_add-tally : goal.overflow_add-tally
overflow_add-tally c =
    let o = c.requires.0 in
    let c' = c.requires.1 in
    let t = counted-ends _ _ _ _ _ _ _ o c' _ _ _ (c.loop-number.invariant.1 o c') (omega arith) _ c.index-x.ensures _ _ c.endings-j.ensures in
    omega (arith, counted-fits _ _ _ _ _ _ _ o c' _ _ _ t (omega arith) _ c.index-x.ensures _ (simp says at c.if-a-b.true).1, c.requires.3)

pub loop-number-preserved : goal.loop-number-preserved
loop-number-preserved c =
    let s = c.loop-number.invariant in
    elim c.if-a-b.branch [
      | then-a-b+else-most-index w ↦
          rw (w.tally-is, w.j-is) (
            w.endings-j.ensures.to,
            λ o c'.
                let t = counted-ends _ _ _ _ _ _ _ o c' _ _ _ (s.1 o c') (omega arith) _ c.index-x.ensures _ _ w.endings-j.ensures in
                counted-more _ _ _ _ _ _ _ o c' _ _ _ t (omega arith) _ c.index-x.ensures _ c.index-k.ensures w.if-a-b.true (omega (arith, c.requires.2.in_tally)) (omega arith),
          )
      | else-a-b w ↦
          rw (w.tally-is, w.j-is) (s.0, λ o c'. counted_skip _ _ _ _ _ _ _ o c' _ _ _ (s.1 o c') (omega arith) _ c.index-x.ensures _ c.index-k.ensures w.if-a-b.false)
    ]

pub returns : goal.returns
returns c = counted-end _ _ _ _ _ _ _ c.requires.0 c.requires.1 _ _ _ (c.loop-number.invariant.1 c.requires.0 c.requires.1) (omega arith) _
