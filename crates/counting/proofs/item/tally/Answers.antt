-- `counting::item::tally` meets its contract: for every row that the chain holds, the walk has come down to `at` and counted those above.
use Prim.Native.Nat.{◌-◌, ◌<◌}
use mathlib.Core.Path.{refl, sym, ap, ◌∙◌}
use native.Mathlib.Omega.{arith}
use lib.ListN.{length}
use Rattle.counting.proofs.Weighing.{weighed_most, up_to-here, up_to-same}
use Rattle.counting.proofs.Tallying.{walked_start, walked_less, walked_take, walked_skip, counted-end}
use Rattle.counting.proofs.item.tally.Goals as goal
use Rattle.counting.proofs.item.tally.Goals.{then-has, else-has}

pub loop-at-init : goal.loop-at-init
loop-at-init c =
    let p = c.requires in
    (refl, λ y. omega (arith, p.2 y), walked_start _ _ _ _ _ _ _ p.1 _ refl _ p.2)

pub weigh-more-requires : goal.weigh-more-requires
weigh-more-requires c =
    let s = c.loop-at in
    let h = c.loop-at-test.true in
    let low : s.at - 1 < length c.args.stretch.begin.now = omega arith in
    (omega (arith, c.requires.0.rep_room), omega (arith, c.requires.0.rep_low (s.at - 1) low, c.requires.0.seen_room))

pub overflow_add-count : goal.overflow_add-count
overflow_add-count c = omega (arith, weighed_most _ _ _ _ _ _ _ c.weigh-more.ensures)

pub loop-at-smaller : goal.loop-at-smaller
loop-at-smaller c =
    walked_less _ _ _ _ _ _ _ c.requires.1 _ _ _ c.loop-at.invariant.2 c.loop-at-test.true _ c.index-at.ensures

pub loop-at-preserved : goal.loop-at-preserved
loop-at-preserved c =
    let s = c.loop-at in
    let h = c.loop-at-test.true in
    let is = c.has.ensures in
    let low : s.at - 1 < length c.args.stretch.begin.now = omega arith in
    let small = c.requires.0.rep_low (s.at - 1) low in
    elim c.if-has.branch [
      | then-has w ↦ (
        omega (arith, s.invariant.0, ap length w.seen-is),
        up_to-here _ _ _ _ _ _ w.weigh-more.ensures s.invariant.1 _ w.seen-is,
        walked_take _ _ _ _ _ _ _ c.requires.1 _ _ _ s.invariant.2 h _ c.index-at.ensures _ _ (sym is ∙ w.if-has.true) w.weigh-more.ensures small _ w.count-is _ w.seen-is,
      )
      | else-has w ↦ (
        omega (arith, s.invariant.0, ap length w.seen-is),
        up_to-same _ _ s.invariant.1 _ w.seen-is,
        walked_skip _ _ _ _ _ _ _ c.requires.1 _ _ _ s.invariant.2 h _ c.index-at.ensures (sym is ∙ w.if-has.false) small _ w.count-is _ w.seen-is,
      )
    ]

pub returns : goal.returns
returns c =
    let s = c.loop-at in
    record {
      number = λ row ch. counted-end _ _ _ _ _ _ _ _ _ (s.invariant.2.1 row ch) c.loop-at-test.false;
      tokens = s.invariant.1;
    }
