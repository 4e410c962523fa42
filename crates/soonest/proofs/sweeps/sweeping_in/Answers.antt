-- `soonest::sweeps::sweeping_in` meets its contract: what the rule reads is lined up by the places laid out, and the kinds find the soonest.
use mathlib.Core.Path.{refl}
use native.Mathlib.Omega.{arith}
use Rattle.soonest.proofs.Lining.{owned, size_of, columns-fit, opens_few, closes_few, opens_covered, closes_covered, covers_of, swept_begins, swept_ends}
use Rattle.soonest.proofs.sweeps.sweeping_in.Goals as goal

pub read_marks-requires : goal.read_marks-requires
read_marks-requires g c =
    let p = c.requires in
    let d = p.3.4 in
    let e = owned g.row.N in
    let f = columns-fit d in
    (f.0, f.1, f.2, f.3, omega (arith, p.0.0))

pub pick-many-requires : goal.pick-many-requires
pick-many-requires g c =
    let p = c.requires in
    let d = p.3.4 in
    let e = owned g.row.N in
    (opens_covered d _ c.read_marks.ensures, omega (arith, opens_few d, p.0.0))

pub lay_low-requires : goal.lay_low-requires
lay_low-requires g c =
    let p = c.requires in
    let d = p.3.4 in
    let e = owned g.row.N in
    let z = size_of d in
    let k = c.pick-many in (
      p.1,
      d.counted,
      covers_of d _ c.read_marks.ensures k.ensures.2 k.ensures.1 _ (omega arith),
      covers_of d _ c.read_marks.ensures k.ensures.2 k.ensures.1 _ (omega (arith, p.0.0)),
    )

pub lay_high-requires : goal.lay_high-requires
lay_high-requires g c =
    let p = c.requires in
    let d = p.3.4 in
    let e = owned g.row.N in
    let z = size_of d in
    let k = c.pick-many in (
      p.1,
      d.counted,
      covers_of d _ c.read_marks.ensures k.ensures.2 k.ensures.1 _ (omega (arith, d.periods.end.size)),
      covers_of d _ c.read_marks.ensures k.ensures.2 k.ensures.1 _ (omega (arith, p.0.0)),
    )

pub swept_in-requires : goal.swept_in-requires
swept_in-requires g c =
    let p = c.requires in
    let d = p.3.4 in
    let e = owned g.row.N in
    let z = size_of d in
    let k = c.pick-many in
    (p.0, (p.3.0, p.3.1, _, swept_begins d _ c.read_marks.ensures k.ensures.2 k.ensures.1 _ (omega (arith, c.lay_low.ensures.0, p.0.0)) c.lay_low.ensures.1 _ (omega (arith, c.lay_high.ensures.0, p.0.0)) c.lay_high.ensures.1 _ c.if-rule-ne4.true _ _ _ p.2 c.terms-bounds.ensures c.asked.ensures, d.classes, z))

pub returns-then-rule-ne4 : goal.returns-then-rule-ne4
returns-then-rule-ne4 g c =
    let p = c.requires in
    let k = c.pick-many in
    let e = owned g.row.N in
    λ doc q vkinds values d u.
    let z = size_of d in
    c.swept_in.ensures doc q _ (swept_begins d _ c.read_marks.ensures k.ensures.2 k.ensures.1 _ (omega (arith, c.lay_low.ensures.0, p.0.0)) c.lay_low.ensures.1 _ (omega (arith, c.lay_high.ensures.0, p.0.0)) c.lay_high.ensures.1 _ c.if-rule-ne4.true _ _ _ p.2 c.terms-bounds.ensures c.asked.ensures) d.classes z u refl

pub pick-last-requires : goal.pick-last-requires
pick-last-requires g c =
    let p = c.requires in
    let d = p.3.4 in
    let e = owned g.row.N in
    (closes_covered d _ c.read_marks.ensures, omega (arith, closes_few d, p.0.0))

pub swept_in-requires-2 : goal.swept_in-requires-2
swept_in-requires-2 g c =
    let p = c.requires in
    let d = p.3.4 in
    let e = owned g.row.N in
    let z = size_of d in
    let k = c.pick-many in
    let l = c.pick-last in
    (p.0, (p.3.0, p.3.1, _, swept_ends d _ c.read_marks.ensures k.ensures.2 k.ensures.1 _ (omega (arith, c.lay_low.ensures.0, p.0.0)) c.lay_low.ensures.1 _ (omega (arith, c.lay_high.ensures.0, p.0.0)) c.lay_high.ensures.1 _ _ l.ensures.2 l.ensures.1 _ _ _ p.2 c.terms-bounds.ensures c.asked.ensures, d.classes, z))

pub returns : goal.returns
returns g c =
    let p = c.requires in
    let k = c.pick-many in
    let l = c.pick-last in
    let e = owned g.row.N in
    λ doc q vkinds values d u.
    let z = size_of d in
    c.swept_in-2.ensures doc q _ (swept_ends d _ c.read_marks.ensures k.ensures.2 k.ensures.1 _ (omega (arith, c.lay_low.ensures.0, p.0.0)) c.lay_low.ensures.1 _ (omega (arith, c.lay_high.ensures.0, p.0.0)) c.lay_high.ensures.1 _ _ l.ensures.2 l.ensures.1 _ _ _ p.2 c.terms-bounds.ensures c.asked.ensures) d.classes z u refl
