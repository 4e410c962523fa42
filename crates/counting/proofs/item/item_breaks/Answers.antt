-- `counting::item::item_breaks` meets its contract: each way out is one law, for every row that the chain holds.
use mathlib.Core.Path.{sym, ◌∙◌, ap}
use native.Mathlib.Omega.{arith}
use lib.ListN.{get_or}
use Rattle.day.proofs.Tallying.{chain-from}
use Rattle.counting.proofs.Meeting.{met_absent, met_counted, met_new, outside-breaks}
use Rattle.counting.proofs.item.item_breaks.Goals as goal

pub returns-then-not-has : goal.returns-then-not-has
returns-then-not-has c =
    let p = c.requires in
    let absent = sym c.has.ensures ∙ c.if-not-has.true in
    record {
      met = λ row ch. met_absent _ _ _ _ absent;
      tokens = λ y. omega (arith, p.3 y);
    }

pub bounds-done-g : goal.bounds-done-g
bounds-done-g c =
    let p = c.requires in
    omega (arith, p.1.group_low _ p.0, p.1.done_room)

pub returns-then-done-g-eq1 : goal.returns-then-done-g-eq1
returns-then-done-g-eq1 c =
    let p = c.requires in
    let here = sym c.has.ensures ∙ c.if-not-has.false in
    record {
      met = λ row ch. met_counted _ _ _ _ here _ c.index-g.ensures c.if-done-g-eq1.true;
      tokens = λ y. omega (arith, p.3 y);
    }

pub bounds-done-g-2 : goal.bounds-done-g-2
bounds-done-g-2 c =
    let p = c.requires in
    omega (arith, p.1.group_low _ p.0, p.1.done_room)

pub offset_bounds-trail-g : goal.offset_bounds-trail-g
offset_bounds-trail-g c =
    let p = c.requires in
    omega (arith, p.1.group_low _ p.0, p.1.last_room)

pub bounds-trail-g : goal.bounds-trail-g
bounds-trail-g c =
    let p = c.requires in
    omega (arith, p.1.group_low _ p.0, p.1.last_room)

pub tally-number-requires : goal.tally-number-requires
tally-number-requires c =
    let p = c.requires in
    let to = c.index-past.ensures ∙ ap (λ x. get_or c.args.trail.last.now x 0) c.index-g.ensures in
    (p.1.room, (p.2.0, chain-from _ _ _ _ _ to p.2.1), λ y. omega (arith, p.3 y))

pub returns : goal.returns
returns c =
    let p = c.requires in
    let here = sym c.has.ensures ∙ c.if-not-has.false in
    let to = c.index-past.ensures ∙ ap (λ x. get_or c.args.trail.last.now x 0) c.index-g.ensures in record {
      met = λ row ch.
          met_new _ _ _ _ here _ c.index-g.ensures c.if-done-g-eq1.false (omega (arith, p.1.group_low _ p.0, p.1.done_room)) _
          (outside-breaks _ _ _ _ _ _ row _ (c.tally-number.ensures.number row (chain-from _ _ _ _ _ to ch)));
      tokens = λ y. omega (arith, c.tally-number.ensures.tokens y);
    }
