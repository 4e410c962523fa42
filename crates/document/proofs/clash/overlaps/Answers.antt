-- `document::clash::overlaps` meets its contract: what is left is to find a version of item j below `at` that meets item i.
use native.Mathlib.Omega.{arith}
use Rattle.meaning.specs.Document.{version_of}
use Rattle.meaning.specs.Nodes.{overlap}
use Rattle.document.proofs.Meeting.{down_start, down_hit, down_less, down_next, down_end}
use Rattle.document.proofs.clash.overlaps.Goals as goal

pub loop-past_u-init : goal.loop-past_u-init
loop-past_u-init c =
    down_start _ _ _ _ _ _ _ c.requires.3 _ (omega (arith, c.requires.3.fits)) _ _ c.index-past_u.ensures

pub returns-then-meets_item : goal.returns-then-meets_item
unfolding overlap version_of
returns-then-meets_item c =
    let s = c.loop-past_u in
    down_hit _ _ _ _ _ _ _ c.requires.3 _ (omega (arith, c.requires.3.fits)) _ _ s.invariant c.loop-past_u-test.true _ c.meets_item.ensures c.if-meets_item.true

pub loop-past_u-smaller : goal.loop-past_u-smaller
loop-past_u-smaller c =
    let s = c.loop-past_u in
    down_less _ _ _ _ _ _ _ c.requires.3 _ (omega (arith, c.requires.3.fits)) _ _ s.invariant c.loop-past_u-test.true _ c.index-past_u-in-loop-past_u.ensures

pub loop-past_u-preserved : goal.loop-past_u-preserved
loop-past_u-preserved c =
    let s = c.loop-past_u in
    down_next _ _ _ _ _ _ _ c.requires.3 _ (omega (arith, c.requires.3.fits)) _ _ s.invariant c.loop-past_u-test.true _ c.index-past_u-in-loop-past_u.ensures
    _ c.meets_item.ensures c.if-meets_item.false

pub returns : goal.returns
unfolding overlap version_of
returns c =
    down_end _ _ _ _ _ _ _ c.requires.3 _ (omega (arith, c.requires.3.fits)) _ _ c.loop-past_u.invariant c.loop-past_u-test.false
