-- `marks::count_marked` meets its contract: what is counted so far and what is left make up the whole.
use native.Mathlib.Omega.{arith}
use borrow.Author.Rules.{rules}
use Rattle.marks.proofs.After.{after_less}
use Rattle.marks.proofs.Storing.{counting-start, counting_more, counting-end}
use Rattle.marks.proofs.count_marked.Goals as goal

pub loop-i-init : goal.loop-i-init
loop-i-init c = (search rules, counting-start _ _ _ (search rules) _ c.next_marked-i.ensures)

pub loop-i-smaller : goal.loop-i-smaller
loop-i-smaller c = after_less _ _ c.loop-i.i _ (omega arith) c.next_marked-i-in-loop-i.ensures

pub loop-i-preserved : goal.loop-i-preserved
loop-i-preserved c =
    let s = c.loop-i in
    (s.invariant.0, counting_more _ _ _ s.invariant.0 s.n s.i s.invariant.1 (omega arith) _ c.next_marked-i-in-loop-i.ensures)

pub returns : goal.returns
returns c =
    let s = c.loop-i in
    counting-end _ _ _ s.invariant.0 s.n s.i s.invariant.1 (omega arith)
