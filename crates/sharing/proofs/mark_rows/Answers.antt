-- `sharing::mark_rows` meets its contract: for every document that the lists hold, the marks tell the values of the rows below v.
use mathlib.Core.Path.{refl}
use native.Mathlib.Omega.{arith}
use Rattle.prepare.specs.Rows.{in_row}
use Rattle.day.proofs.Skipping.{next-room, laid, fits, next_of, next_more}
use Rattle.sharing.proofs.Walking.{told-start, told-step, told-all}
use borrow.Author.Rules.{rules}
use Rattle.sharing.proofs.mark_rows.Goals as goal

pub loop-v-init : goal.loop-v-init
loop-v-init c =
    let none = c.requires.3.none in
    (refl, λ doc r held. told-start _ _ _ _ _ _ (laid held).starts _ none)

pub mark_row-requires : goal.mark_row-requires
mark_row-requires c =
    let p = c.requires in
    let s = c.loop-v in
    let h = c.loop-v-test.true in record {
      rooms = (h, fits p.2 _ (omega (arith, s.invariant.0, p.3.room)));
      chain = (in_row p.0 p.1 s.v, ((laid p.2).chains s.v h ((s.invariant.1 p.0 p.1 p.2).come.is_chosen h)));
    }

pub offset_bounds-trail-v : goal.offset_bounds-trail-v
offset_bounds-trail-v c =
    omega (arith, next-room c.requires.2)

pub bounds-trail-v : goal.bounds-trail-v
bounds-trail-v c = omega (arith, next-room c.requires.2)

pub loop-v-smaller : goal.loop-v-smaller
loop-v-smaller c =
    next_more c.requires.2 _ c.loop-v-test.true _ c.index-v.ensures

pub loop-v-preserved : goal.loop-v-preserved
loop-v-preserved c =
    let s = c.loop-v in
    let h = c.loop-v-test.true in (
      search rules,
      λ doc r held.
          let k = s.invariant.1 doc r held in
          told-step _ _ _ _ _ _ _ k h _ (c.mark_row.ensures (in_row doc r s.v) ((laid held).chains s.v h (k.come.is_chosen h))) _ (next_of held s.v h _ c.index-v.ensures),
    )

pub returns : goal.returns
returns c = λ doc r held. told-all _ _ _ _ _ _ _ (c.loop-v.invariant.1 doc r held) c.loop-v-test.false
