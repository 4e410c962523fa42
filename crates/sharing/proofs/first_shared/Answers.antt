-- `sharing::first_shared` meets its contract: for every document that the lists hold, no row below v offends, and the holders tell its values and their class.
use mathlib.Core.Path.{refl}
use mathlib.Core.Logic.{⊎_elim}
use native.Mathlib.Omega.{arith}
use Rattle.prepare.specs.Rows.{in_row}
use Rattle.day.proofs.Skipping.{sized, next-room, laid, fits, next_of, next_more}
use Rattle.prepare.proofs.Valued.{low-wants}
use Rattle.sharing.proofs.Walking.{shared_start, shared_found, shared_step, shared_end}
use Rattle.sharing.proofs.Offence.{shared_answer}
use borrow.Author.Rules.{rules}
use Rattle.sharing.proofs.first_shared.Goals as goal

pub loop-v-init : goal.loop-v-init
loop-v-init c =
    let none = c.requires.5.none in
    (refl, λ doc r held. shared_start _ _ _ _ _ _ _ _ (laid held).starts _ none)

pub row_shares-requires : goal.row_shares-requires
row_shares-requires c =
    let p = c.requires in
    let s = c.loop-v in
    let h = c.loop-v-test.true in
    let n = sized p.2 in record {
      rooms = (
        h,
        fits p.2 _ (omega (arith, s.invariant.0, p.5.room)),
        omega (arith, n, p.3.room),
        omega (arith, p.3.low s.v (omega (arith, h, n)), p.4),
      );
      chain = (in_row p.0 p.1 s.v, ((laid p.2).chains s.v h ((s.invariant.1 p.0 p.1 p.2).come.is_chosen h)));
    }

pub returns-then-row_shares : goal.returns-then-row_shares
returns-then-row_shares c =
    let s = c.loop-v in
    let h = c.loop-v-test.true in
    λ doc q r w held grouped sequenced e i kinds.
    let k = s.invariant.1 doc r held in
    shared_answer c.args.trail c.args.stretch doc q r w held (λ f. low-wants doc r f (⊎_elim (λ k. omega (arith, k.0)) (λ k. omega (arith, k.0)) kinds)) e i _ grouped _ kinds
    (shared_found _ _ _ _ _ _ _ _ _ k h _ _ (c.row_shares.ensures (in_row doc r s.v) ((laid held).chains s.v h (k.come.is_chosen h))) c.if-row_shares.true)

pub offset_bounds-trail-v : goal.offset_bounds-trail-v
offset_bounds-trail-v c =
    omega (arith, next-room c.requires.2)

pub bounds-trail-v : goal.bounds-trail-v
bounds-trail-v c = omega (arith, next-room c.requires.2)

pub loop-v-smaller : goal.loop-v-smaller
loop-v-smaller c =
    next_more c.requires.2 _ c.loop-v-test.true _ c.index-v.ensures

pub loop-v-preserved : goal.loop-v-preserved
loop-v-preserved c =
    let s = c.loop-v in
    let h = c.loop-v-test.true in (
      search rules,
      λ doc r held.
          let k = s.invariant.1 doc r held in
          shared_step _ _ _ _ _ _ _ _ _ k h _ _ (c.row_shares.ensures (in_row doc r s.v) ((laid held).chains s.v h (k.come.is_chosen h))) c.if-row_shares.false (omega arith) _ (next_of held s.v h _ c.index-v.ensures),
    )

pub returns : goal.returns
returns c =
    λ doc q r w held grouped sequenced e i kinds.
    shared_answer c.args.trail c.args.stretch doc q r w held (λ f. low-wants doc r f (⊎_elim (λ k. omega (arith, k.0)) (λ k. omega (arith, k.0)) kinds)) e i _ grouped _ kinds
    (shared_end _ _ _ _ _ _ _ _ _ (c.loop-v.invariant.1 doc r held) c.loop-v-test.false)
