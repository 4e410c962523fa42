-- `day::first_row` meets its contract: for every document that the lists hold, the walk has come to row v, and no row below it offends.
use mathlib.Core.Path.{refl}
use native.Mathlib.Omega.{arith}
use borrow.Author.Rules.{rules}
use Rattle.prepare.specs.Rows.{in_row}
use Rattle.day.proofs.Skipping.{next-room, laid, fits, next_of, next_more}
use Rattle.day.proofs.Walking.{looked_start, looked_found, looked_step, looked_end}
use Rattle.day.proofs.first_row.Goals as goal

pub loop-v-init : goal.loop-v-init
loop-v-init c = (refl, λ doc r s. looked_start _ _ _ _ _ _ _ _ _ _ (laid s).starts)

pub row_offends-requires : goal.row_offends-requires
row_offends-requires c =
    let pre = c.requires in
    let s = c.loop-v in
    let h = c.loop-v-test.true in record {
      rooms = (h, fits pre.2 _ (omega (arith, s.invariant.0, pre.3)));
      chain = (in_row pre.0 pre.1 s.v, (laid pre.2).chains s.v h ((s.invariant.1 pre.0 pre.1 pre.2).told.is_chosen h));
    }

pub returns-then-row_offends : goal.returns-then-row_offends
returns-then-row_offends c =
    let s = c.loop-v in
    let h = c.loop-v-test.true in
    λ doc r held.
    let l = s.invariant.1 doc r held in
    looked_found _ _ _ _ _ _ _ _ _ _ _ l h _ _ (c.row_offends.ensures (in_row doc r s.v) ((laid held).chains s.v h (l.told.is_chosen h))) c.if-row_offends.true

pub offset_bounds-trail-v : goal.offset_bounds-trail-v
offset_bounds-trail-v c =
    omega (arith, next-room c.requires.2)

pub bounds-trail-v : goal.bounds-trail-v
bounds-trail-v c = omega (arith, next-room c.requires.2)

pub loop-v-smaller : goal.loop-v-smaller
loop-v-smaller c =
    next_more c.requires.2 _ c.loop-v-test.true _ c.index-v.ensures

pub loop-v-preserved : goal.loop-v-preserved
loop-v-preserved c =
    let s = c.loop-v in
    let h = c.loop-v-test.true in (
      search rules,
      λ doc r held.
          let l = s.invariant.1 doc r held in
          looked_step _ _ _ _ _ _ _ _ _ _ _ l h _ _ (c.row_offends.ensures (in_row doc r s.v) ((laid held).chains s.v h (l.told.is_chosen h))) c.if-row_offends.false _ (next_of held s.v h _ c.index-v.ensures),
    )

pub returns : goal.returns
returns c = λ doc r held. looked_end _ _ _ _ _ _ _ _ _ _ _ (c.loop-v.invariant.1 doc r held) c.loop-v-test.false
