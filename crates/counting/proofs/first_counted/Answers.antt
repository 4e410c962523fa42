-- `counting::first_counted` meets its contract: for every document that the lists hold, the walk has come to version v, and none below it offends.
use mathlib.Core.Path.{refl, ◌∙◌}
use native.Mathlib.Omega.{arith}
use Rattle.meaning.specs.Document.{number_of}
use Rattle.groups.specs.Groups.{in_group}
use Rattle.counting.proofs.Leading.{next-room, fits, starts, next_of, next_more, chain-of}
use Rattle.counting.proofs.Looking.{looked_start, looked_found, looked_step, looked_end}
use Rattle.counting.proofs.Offence.{alike, answers}
use borrow.Author.Rules.{rules}
use Rattle.counting.proofs.first_counted.Goals as goal

pub loop-v-init : goal.loop-v-init
loop-v-init c =
    let f = c.requires.3 in
    (refl, refl, λ y. omega (arith, f.none y), λ doc r s. looked_start _ _ _ _ _ _ _ (starts s) f.classes.none)

pub item_breaks-requires : goal.item_breaks-requires
item_breaks-requires c =
    let p = c.requires in
    let s = c.loop-v in
    let h = c.loop-v-test.true in (
      h,
      fits p.2 _ _ (omega (arith, s.invariant.0, p.3.classes.room)) (omega (arith, s.invariant.1, p.3.seen_room)),
      (in_group p.0 p.1 (number_of p.0 s.v), chain-of p.2 s.v ((s.invariant.3 p.0 p.1 p.2).is_chosen h)),
      s.invariant.2,
    )

pub returns-then-item_breaks : goal.returns-then-item_breaks
returns-then-item_breaks c =
    let s = c.loop-v in
    let h = c.loop-v-test.true in
    let b = c.item_breaks.ensures in
    λ doc q r w held terms a e.
    let l = s.invariant.3 doc r held in
    looked_found _ _ _ _ _ (alike _ _ c.args.trail c.args.stretch _ held _) _ _ l h _ _ (b.met _ (chain-of held s.v (l.is_chosen h))) c.if-item_breaks.true
    ∙ answers _ _ c.args.trail c.args.stretch _ held _ q w terms a e

pub offset_bounds-trail-v : goal.offset_bounds-trail-v
offset_bounds-trail-v c =
    omega (arith, next-room c.requires.2)

pub bounds-trail-v : goal.bounds-trail-v
bounds-trail-v c = omega (arith, next-room c.requires.2)

pub loop-v-smaller : goal.loop-v-smaller
loop-v-smaller c =
    next_more c.requires.2 _ c.loop-v-test.true _ c.index-v.ensures

pub loop-v-preserved : goal.loop-v-preserved
loop-v-preserved c =
    let p = c.requires in
    let s = c.loop-v in
    let h = c.loop-v-test.true in
    let b = c.item_breaks.ensures in
    let m = next_of p.2 _ h _ c.index-v.ensures in (
      search rules,
      search rules,
      λ y. omega (arith, b.tokens y, m.from),
      λ doc r held.
          let l = s.invariant.3 doc r held in
          looked_step _ _ _ _ _ (alike _ _ c.args.trail c.args.stretch _ held _) _ _ l h _ _ (b.met _ (chain-of held s.v (l.is_chosen h))) c.if-item_breaks.false
          _ (next_of held _ h _ c.index-v.ensures),
    )

pub returns : goal.returns
returns c = λ doc q r w held terms a e. looked_end _ _ _ _ _ _ _ (c.loop-v.invariant.3 doc r held) c.loop-v-test.false ∙ answers _ _ c.args.trail c.args.stretch _ held _ q w terms a e
