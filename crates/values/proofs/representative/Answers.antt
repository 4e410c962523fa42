-- `values::representative` meets its contract: what is left is to find a version below `past-g` with the value of f.
use native.Mathlib.Omega.{arith}
use Rattle.meaning.specs.Select.{is_nil, same_value}
use Rattle.values.proofs.Falling.{nil_alone, falling_start, falling_hit, falling_less, falling_next, falling_end}
use Rattle.values.proofs.representative.Goals as goal

pub returns-then-records-f-eq3 : goal.returns-then-records-f-eq3
returns-then-records-f-eq3 c = nil_alone _ _ c.requires.3 c.if-records-f-eq3.true

pub loop-past_g-init : goal.loop-past_g-init
loop-past_g-init c = let p = c.requires in (p.1, falling_start _ _ p.1 _ p.3 c.if-records-f-ne2.false _ c.index-past_g.ensures)

pub returns-then-same_value : goal.returns-then-same_value
unfolding same_value is_nil
returns-then-same_value c =
    let p = c.requires in
    let s = c.loop-past_g.invariant in
    falling_hit _ _ s.0 _ p.3 c.if-records-f-ne2.false _ s.1 (omega arith) _ p.4 _ c.same_value.ensures c.if-same_value.true

pub loop-past_g-smaller : goal.loop-past_g-smaller
loop-past_g-smaller c =
    let p = c.requires in
    let s = c.loop-past_g.invariant in
    falling_less _ _ s.0 _ p.3 c.if-records-f-ne2.false _ s.1 (omega arith) _ c.index-past_g-in-loop-past_g.ensures

pub loop-past_g-preserved : goal.loop-past_g-preserved
unfolding same_value is_nil
loop-past_g-preserved c =
    let p = c.requires in
    let s = c.loop-past_g.invariant in
    (s.0, falling_next _ _ s.0 _ p.3 c.if-records-f-ne2.false _ s.1 (omega arith) _ c.index-past_g-in-loop-past_g.ensures _ c.same_value.ensures c.if-same_value.false)

pub returns : goal.returns
returns c =
    let p = c.requires in
    let s = c.loop-past_g.invariant in
    falling_end _ _ s.0 _ p.3 c.if-records-f-ne2.false _ s.1 c.loop-past_g-test.false
