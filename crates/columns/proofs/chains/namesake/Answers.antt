-- `columns::chains::namesake` meets its contract: what is left is to find an item below `past-j` with the number of i.
use native.Mathlib.Omega.{arith}
use Rattle.columns.proofs.Namesakes.{falling_start, falling_hit, falling_less, falling_next, falling_end}
use Rattle.columns.proofs.chains.namesake.Goals as goal

pub loop-past_j-init : goal.loop-past_j-init
loop-past_j-init c =
    let p = c.requires in
    (p.3, falling_start _ _ p.3 _ p.1 p.2 _ c.index-past_j.ensures)

pub returns-then-item-past_j : goal.returns-then-item-past_j
returns-then-item-past_j c =
    let p = c.requires in
    let s = c.loop-past_j.invariant in
    falling_hit _ _ s.0 _ p.1 p.2 _ s.1 (omega arith) c.if-item-past_j.true

pub loop-past_j-smaller : goal.loop-past_j-smaller
loop-past_j-smaller c =
    let p = c.requires in
    let s = c.loop-past_j.invariant in
    falling_less _ _ s.0 _ p.1 p.2 _ s.1 (omega arith) _ c.index-past_j-in-loop-past_j.ensures

pub loop-past_j-preserved : goal.loop-past_j-preserved
loop-past_j-preserved c =
    let p = c.requires in
    let s = c.loop-past_j.invariant in
    (s.0, falling_next _ _ s.0 _ p.1 p.2 _ s.1 (omega arith) _ c.index-past_j-in-loop-past_j.ensures c.if-item-past_j.false)

pub returns : goal.returns
returns c =
    let p = c.requires in
    let s = c.loop-past_j.invariant in
    falling_end _ _ s.0 _ p.1 p.2 _ s.1 c.loop-past_j-test.false
