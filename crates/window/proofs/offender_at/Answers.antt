-- `window::offender_at` meets its contract: the walk of the rule's kind answers.
use mathlib.Core.Path.{refl}
use native.Mathlib.Omega.{arith}
use Rattle.window.proofs.Settling.{answer, aside, early, needy, own-rows, held_rows, chains, way, rooms}
use Rattle.window.proofs.offender_at.Goals as goal

pub counted_at-requires : goal.counted_at-requires
counted_at-requires c =
    let p = c.requires in
    (p.0, c.if-r-eq4.true, (p.3.0, chains p.3.2 c.from-trail.ensures p.1 c.if-r-eq4.true))

pub returns-then-r-eq4 : goal.returns-then-r-eq4
returns-then-r-eq4 c =
    let k = c.if-r-eq4.true in
    λ doc q w s from to short. aside doc q _ w 4 k refl (c.counted_at.ensures doc q w (chains s c.from-trail.ensures c.requires.1 k) from to short)

pub stepped_in-requires : goal.stepped_in-requires
stepped_in-requires c =
    let k = c.if-r-eq5.true in
    let s = c.requires.3.2 in
    record {
      rooms = rooms s k;
      way = way s k;
    }

pub returns-then-r-eq5 : goal.returns-then-r-eq5
returns-then-r-eq5 c =
    let p = c.requires in
    λ doc q w s from to short. aside doc q _ w 5 c.if-r-eq5.true refl (answer doc q _ w (c.stepped_in.ensures doc q _ w s.periods (s.spread.stepping c.if-r-eq5.true).1 s.judgeable p.1 c.if-r-eq5.true from to p.2))

pub missing_in-requires : goal.missing_in-requires
missing_in-requires c =
    let k = c.if-r-eq3.true in
    let p = c.requires.3 in
    (p.0, _, p.1, own-rows p.2 c.from-trail.ensures (omega arith), (held_rows p.2 c.from.ensures k).ready, p.2.judgeable.few)

pub returns-then-r-eq3 : goal.returns-then-r-eq3
returns-then-r-eq3 c =
    let k = c.if-r-eq3.true in
    let p = c.requires in
    λ doc q w s from to short. c.missing_in.ensures doc q _ w (own-rows s c.from-trail.ensures (omega arith)) (held_rows s c.from.ensures k) p.1 k from to

pub shared_in-requires : goal.shared_in-requires
shared_in-requires c =
    let p = c.requires in
    let k = early _ p.0 c.if-r-eq3.false c.if-r-eq4.false c.if-r-eq5.false in
    (p.3.0, _, own-rows p.3.2 c.from-trail.ensures (omega (arith, k)), p.3.2.classes, p.3.2.judgeable.few)

pub returns : goal.returns
returns c =
    let p = c.requires in
    let no-count = c.if-r-eq4.false in
    let k = early _ p.0 c.if-r-eq3.false no-count c.if-r-eq5.false in
    λ doc q w s from to short.
    c.shared_in.ensures doc q _ w (own-rows s c.from-trail.ensures (omega (arith, k))) s.classes p.1 from to (needy _ p.0 c.if-r-eq3.false no-count c.if-r-eq5.false)
