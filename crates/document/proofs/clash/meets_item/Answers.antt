-- `document::clash::meets_item` meets its contract: what is left is to find a version of item i below `at`.
use native.Mathlib.Omega.{arith}
use Rattle.meaning.specs.Document.{version_of}
use Rattle.meaning.specs.Nodes.{share_day}
use Rattle.document.proofs.Meeting.{down_start, down_hit, down_less, down_next, down_end}
use Rattle.document.proofs.clash.meets_item.Goals as goal

pub loop-past_v-init : goal.loop-past_v-init
loop-past_v-init c =
    down_start _ _ _ _ _ _ _ c.requires.3 _ (omega (arith, c.requires.3.fits)) _ _ c.index-past_v.ensures

pub returns-then-share_day : goal.returns-then-share_day
unfolding version_of share_day
returns-then-share_day c =
    let s = c.loop-past_v in
    down_hit _ _ _ _ _ _ _ c.requires.3 _ (omega (arith, c.requires.3.fits)) _ _ s.invariant c.loop-past_v-test.true _ c.share_day.ensures c.if-share_day.true

pub loop-past_v-smaller : goal.loop-past_v-smaller
loop-past_v-smaller c =
    let s = c.loop-past_v in
    down_less _ _ _ _ _ _ _ c.requires.3 _ (omega (arith, c.requires.3.fits)) _ _ s.invariant c.loop-past_v-test.true _ c.index-past_v-in-loop-past_v.ensures

pub loop-past_v-preserved : goal.loop-past_v-preserved
unfolding share_day
loop-past_v-preserved c =
    let s = c.loop-past_v in
    down_next _ _ _ _ _ _ _ c.requires.3 _ (omega (arith, c.requires.3.fits)) _ _ s.invariant c.loop-past_v-test.true _ c.index-past_v-in-loop-past_v.ensures
    _ c.share_day.ensures c.if-share_day.false

pub returns : goal.returns
unfolding version_of
returns c =
    down_end _ _ _ _ _ _ _ c.requires.3 _ (omega (arith, c.requires.3.fits)) _ _ c.loop-past_v.invariant c.loop-past_v-test.false
