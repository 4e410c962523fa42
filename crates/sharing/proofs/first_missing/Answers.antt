-- `sharing::first_missing` meets its contract: for every document that the lists hold, no row below v has a value that is not marked.
use native.Mathlib.Omega.{arith}
use Rattle.prepare.specs.Rows.{in_row}
use Rattle.day.proofs.Skipping.{next-room, laid, fits, next_of, next_more}
use Rattle.sharing.proofs.Walking.{missed-start, missed-found, missed-step, missed-end}
use Rattle.sharing.proofs.first_missing.Goals as goal

pub loop-v-init : goal.loop-v-init
loop-v-init c = λ doc r held. missed-start _ _ _ _ _ _ _ (laid held).starts

pub row_misses-requires : goal.row_misses-requires
row_misses-requires c =
    let p = c.requires in
    let s = c.loop-v in
    let h = c.loop-v-test.true in record {
      rooms = (h, fits p.2 _ p.3);
      chain = (in_row p.0 p.1 s.v, ((laid p.2).chains s.v h ((s.invariant p.0 p.1 p.2).come.is_chosen h)));
    }

pub returns-then-row_misses : goal.returns-then-row_misses
returns-then-row_misses c =
    let s = c.loop-v in
    let h = c.loop-v-test.true in
    λ doc r held.
    let k = s.invariant doc r held in
    missed-found _ _ _ _ _ _ _ k h _ (c.row_misses.ensures (in_row doc r s.v) ((laid held).chains s.v h (k.come.is_chosen h))) c.if-row_misses.true

pub offset_bounds-trail-v : goal.offset_bounds-trail-v
offset_bounds-trail-v c =
    omega (arith, next-room c.requires.2)

pub bounds-trail-v : goal.bounds-trail-v
bounds-trail-v c = omega (arith, next-room c.requires.2)

pub loop-v-smaller : goal.loop-v-smaller
loop-v-smaller c =
    next_more c.requires.2 _ c.loop-v-test.true _ c.index-v.ensures

pub loop-v-preserved : goal.loop-v-preserved
loop-v-preserved c =
    let s = c.loop-v in
    let h = c.loop-v-test.true in
    λ doc r held.
    let k = s.invariant doc r held in
    missed-step _ _ _ _ _ _ _ k h _ (c.row_misses.ensures (in_row doc r s.v) ((laid held).chains s.v h (k.come.is_chosen h))) c.if-row_misses.false _ (next_of held s.v h _ c.index-v.ensures)

pub returns : goal.returns
returns c = λ doc r held. missed-end _ _ _ _ _ _ _ (c.loop-v.invariant doc r held) c.loop-v-test.false
