-- `marks::list_marked` meets its contract: what is left to store from the k-th entry on completes the list.
use native.Mathlib.Omega.{arith}
use Rattle.marks.proofs.After.{after_less}
use Rattle.marks.proofs.Storing.{filling_start, filling_room, filling_more, filling_end}
use Rattle.marks.proofs.list_marked.Goals as goal

pub loop-i-init : goal.loop-i-init
loop-i-init c =
    let p = c.requires in
    (p.2, filling_start _ _ _ p.2 _ p.3 _ c.next_marked-i.ensures)

pub bounds-out-k : goal.bounds-out-k
bounds-out-k c =
    let s = c.loop-i in
    filling_room _ _ _ s.invariant.0 _ s.out s.k s.i s.invariant.1 (omega arith)

pub loop-i-smaller : goal.loop-i-smaller
loop-i-smaller c = after_less _ _ c.loop-i.i _ (omega arith) c.next_marked-i-in-loop-i.ensures

pub loop-i-preserved : goal.loop-i-preserved
loop-i-preserved c =
    let s = c.loop-i in
    (s.invariant.0, filling_more _ _ _ s.invariant.0 _ s.out s.k s.i s.invariant.1 (omega arith) _ c.next_marked-i-in-loop-i.ensures)

pub returns : goal.returns
returns c =
    let s = c.loop-i in
    filling_end _ _ _ s.invariant.0 _ s.out s.k s.i s.invariant.1 c.requires.3 (omega arith)
