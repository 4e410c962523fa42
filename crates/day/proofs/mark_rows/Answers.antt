-- `day::mark_rows` meets its contract: for every document that the lists hold, the marks tell the only values of the rows below v.
use mathlib.Core.Path.{refl}
use native.Mathlib.Omega.{arith}
use borrow.Author.Rules.{rules}
use Rattle.prepare.specs.Rows.{in_row}
use Rattle.day.proofs.Skipping.{next-room, laid, fits, next_of, next_more}
use Rattle.day.proofs.Walking.{told-start, told-met, told-all}
use Rattle.day.proofs.mark_rows.Goals as goal

pub loop-v-init : goal.loop-v-init
loop-v-init c = (refl, λ doc r s. told-start _ _ _ _ _ _ _ _ (laid s).starts)

pub row_offends-requires : goal.row_offends-requires
row_offends-requires c =
    let pre = c.requires in
    let s = c.loop-v in
    let h = c.loop-v-test.true in record {
      rooms = (h, fits pre.2 _ (omega (arith, s.invariant.0, pre.3.room)));
      chain = (in_row pre.0 pre.1 s.v, (laid pre.2).chains s.v h ((s.invariant.1 pre.0 pre.1 pre.2).is_chosen h));
    }

pub offset_bounds-trail-v : goal.offset_bounds-trail-v
offset_bounds-trail-v c =
    omega (arith, next-room c.requires.2)

pub bounds-trail-v : goal.bounds-trail-v
bounds-trail-v c = omega (arith, next-room c.requires.2)

pub loop-v-smaller : goal.loop-v-smaller
loop-v-smaller c =
    next_more c.requires.2 _ c.loop-v-test.true _ c.index-v.ensures

pub loop-v-preserved : goal.loop-v-preserved
loop-v-preserved c =
    let s = c.loop-v in
    let h = c.loop-v-test.true in (
      search rules,
      λ doc r held.
          let m = s.invariant.1 doc r held in
          told-met _ _ _ _ _ _ _ _ _ m h _ _ (c.row_offends.ensures (in_row doc r s.v) ((laid held).chains s.v h (m.is_chosen h))) _ (next_of held s.v h _ c.index-v.ensures),
    )

pub returns : goal.returns
returns c =
    let pre = c.requires in
    λ doc r held. told-all _ _ _ _ _ _ _ _ _ (c.loop-v.invariant.1 doc r held) c.loop-v-test.false refl pre.3.none
