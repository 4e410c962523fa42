-- `document::clash::clashes_lower` meets its contract: what is left is to find a lower item below `at` that item i clashes with.
use native.Mathlib.Omega.{arith}
use Rattle.document.proofs.Lowering.{no_item, lowered_start, lowered_item, lowered_hit, lowered_less, lowered_next, lowered_end}
use Rattle.document.proofs.clash.clashes_lower.Goals as goal

pub returns-then-of-i-ne1 : goal.returns-then-of-i-ne1
returns-then-of-i-ne1 c = no_item _ _ c.if-of-i-ne1.true

pub loop-past_j-init : goal.loop-past_j-init
loop-past_j-init c =
    let p = c.requires in
    (p.3, lowered_start _ _ p.3 _ p.1 c.if-of-i-ne1.false _ c.index-past_j.ensures)

pub clashes_with-requires : goal.clashes_with-requires
clashes_with-requires c =
    let p = c.requires in
    let s = c.loop-past_j.invariant in
    (p.0, p.1, omega (arith, s.1.low), lowered_item _ _ s.0 _ p.1 c.if-of-i-ne1.false _ s.1 c.loop-past_j-test.true, p.2)

pub returns-then-clashes_with : goal.returns-then-clashes_with
returns-then-clashes_with c =
    let p = c.requires in
    let s = c.loop-past_j.invariant in
    lowered_hit _ _ s.0 _ p.1 c.if-of-i-ne1.false _ s.1 c.loop-past_j-test.true _ c.clashes_with.ensures c.if-clashes_with.true

pub loop-past_j-smaller : goal.loop-past_j-smaller
loop-past_j-smaller c =
    let p = c.requires in
    let s = c.loop-past_j.invariant in
    lowered_less _ _ s.0 _ p.1 c.if-of-i-ne1.false _ s.1 c.loop-past_j-test.true _ c.index-past_j-in-loop-past_j.ensures

pub loop-past_j-preserved : goal.loop-past_j-preserved
loop-past_j-preserved c =
    let p = c.requires in
    let s = c.loop-past_j.invariant in (
      s.0,
      lowered_next _ _ s.0 _ p.1 c.if-of-i-ne1.false _ s.1 c.loop-past_j-test.true _ c.index-past_j-in-loop-past_j.ensures
          _ c.clashes_with.ensures c.if-clashes_with.false,
    )

pub returns : goal.returns
returns c =
    let p = c.requires in
    let s = c.loop-past_j.invariant in
    lowered_end _ _ s.0 _ p.1 c.if-of-i-ne1.false _ s.1 c.loop-past_j-test.false
