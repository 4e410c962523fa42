-- `soonest::stepping::stepping_in` meets its contract: what the rule reads is lined up by the places laid out.
use mathlib.Core.Path.{refl}
use native.Mathlib.Omega.{arith}
use Rattle.prepare.proofs.Valued.{known_only}
use Rattle.soonest.proofs.Lining.{owned, size_of, columns-fit, opens_few, opens_covered, covers_of, closing_of, given_until, steps-found}
use Rattle.soonest.proofs.stepping.stepping_in.Goals as goal

pub read_marks-requires : goal.read_marks-requires
read_marks-requires g c =
    let p = c.requires in
    let f = columns-fit p.5.3 in
    let e = owned g.row.N in
    (f.0, f.1, f.2, f.3, omega (arith, p.0.0))

pub pick-many-requires : goal.pick-many-requires
pick-many-requires g c =
    let p = c.requires in
    let d = p.5.3 in
    let e = owned g.row.N in
    (opens_covered d _ c.read_marks.ensures, omega (arith, opens_few d, p.0.0))

pub lay_low-requires : goal.lay_low-requires
lay_low-requires g c =
    let p = c.requires in
    let d = p.5.3 in
    let z = size_of d in
    let e = owned g.row.N in
    let k = c.pick-many in (
      p.1,
      d.counted,
      covers_of d _ c.read_marks.ensures k.ensures.2 k.ensures.1 _ (omega arith),
      covers_of d _ c.read_marks.ensures k.ensures.2 k.ensures.1 _ (omega (arith, p.0.0)),
    )

pub reaching-requires : goal.reaching-requires
reaching-requires g c =
    let p = c.requires in
    let d = p.5.3 in
    let z = size_of d in
    let e = owned g.row.N in
    let k = c.pick-many in (
      p.1,
      d.counted,
      covers_of d _ c.read_marks.ensures k.ensures.2 k.ensures.1 _ (omega arith),
      omega (arith, p.0.0),
      (p.5.0, closing_of d, d.judgeable),
    )

pub least-requires : goal.least-requires
least-requires g c =
    let p = c.requires in
    let d = p.5.3 in
    let z = size_of d in
    let e = owned g.row.N in
    let k = c.pick-many in
    let r = c.reaching.ensures p.5.0 (closing_of d) d.judgeable (known_only _ _ p.3 p.4) in
    given_until d _ c.read_marks.ensures k.ensures.2 k.ensures.1 _ (omega (arith, c.lay_low.ensures.0, p.0.0)) c.lay_low.ensures.1 _ r.room

pub returns : goal.returns
returns g c =
    let p = c.requires in
    let k = c.pick-many in
    let e = owned g.row.N in
    λ doc q reps d.
    let z = size_of d in
    steps-found d _ c.read_marks.ensures k.ensures.2 k.ensures.1 _ (omega (arith, c.lay_low.ensures.0, p.0.0)) c.lay_low.ensures.1 _ _ _
    c.least.ensures refl p.3 (c.reaching.ensures doc (closing_of d) d.judgeable (known_only _ _ p.3 p.4)) p.2 p.4
