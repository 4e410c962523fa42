-- `soonest::on_days::on_days` meets its contract: by the kind, what its parts promise is that nothing offends sooner.
use native.Mathlib.Omega.{arith}
use Rattle.parts.proofs.Using.{given_least}
use Rattle.soonest.proofs.Finding.{rooms, numbered-small, unique-found, reference-found, datatype-found, cardinality-found, key-found, left_one}
use Rattle.soonest.proofs.on_days.on_days.Goals as goal

pub least-requires : goal.least-requires
least-requires c =
    let p = c.requires in
    let m = rooms _ _ _ _ _ _ _ _ _ _ _ _ _ _ _ p.1.4 _ p.1.5 in
    given_least _ _ _ _ m.ground m.rows_room

pub returns-then-terms-ge5 : goal.returns-then-terms-ge5
returns-then-terms-ge5 c = λ doc q r places s e k. datatype-found doc q r places _ _ _ _ _ _ _ _ _ _ _ s k _ _ e c.if-terms-ge5.true c.least.ensures

pub numbered-requires : goal.numbered-requires
numbered-requires c =
    let p = c.requires in
    ((rooms _ _ _ _ _ _ _ _ _ _ _ _ _ _ _ p.1.4 _ p.1.5).few, p.0.in_one)

pub unique-requires : goal.unique-requires
unique-requires c =
    let p = c.requires in
    let m = rooms _ _ _ _ _ _ _ _ _ _ _ _ _ _ _ p.1.4 _ p.1.5 in
    (m.ground, m.rows_room, c.numbered.ensures, m.small, p.0.in_two, p.0.in_three, p.0.in_four)

pub returns-then-terms-eq2 : goal.returns-then-terms-eq2
returns-then-terms-eq2 c =
    let u = c.unique.ensures in
    λ doc q r places s e k. unique-found doc q r places _ _ _ _ _ _ _ _ _ _ _ s k _ _ e c.if-terms-eq2.true u.0 u.1

pub reference-requires : goal.reference-requires
reference-requires c =
    let p = c.requires in
    let m = rooms _ _ _ _ _ _ _ _ _ _ _ _ _ _ _ p.1.4 _ p.1.5 in
    (m.few, m.ground, m.rows_room, m.others_room, c.numbered.ensures, m.small, p.0.in_two, p.0.in_three, p.0.in_four)

pub returns-then-terms-eq3 : goal.returns-then-terms-eq3
returns-then-terms-eq3 c =
    let u = c.reference.ensures in
    λ doc q r places s e k. reference-found doc q r places _ _ _ _ _ _ _ _ _ _ _ s k _ _ e c.if-terms-eq3.true u.0 u.1

pub cardinality-requires : goal.cardinality-requires
cardinality-requires c =
    let p = c.requires in
    let m = rooms _ _ _ _ _ _ _ _ _ _ _ _ _ _ _ p.1.4 _ p.1.5 in (
      record { few = m.few; ground = m.ground; in_keys = m.rows_room; by_begin = m.opens; by_end = m.ends c.if-terms-eq4.true },
      m.chosen_room,
      numbered-small _ _ c.numbered.ensures,
      p.0.in_two,
      p.0.in_three,
      p.0.in_four,
    )

pub returns-then-terms-eq4 : goal.returns-then-terms-eq4
returns-then-terms-eq4 c =
    let u = c.cardinality.ensures in
    λ doc q r places s e k. cardinality-found doc q r places _ _ _ _ _ _ _ _ _ _ _ s k _ _ e _ c.numbered.ensures c.if-terms-eq4.true _ (omega (arith, c.index.ensures)) u.0 u.1

pub key-requires : goal.key-requires
key-requires c =
    let p = c.requires in
    let m = rooms _ _ _ _ _ _ _ _ _ _ _ _ _ _ _ p.1.4 _ p.1.5 in (
      m.ground,
      m.chosen_room,
      m.rows_room,
      c.numbered.ensures,
      m.small,
      numbered-small _ _ c.numbered.ensures,
      p.0.in_two,
      p.0.in_three,
      p.0.in_four,
    )

pub returns : goal.returns
returns c =
    let u = c.key.ensures in
    λ doc q r places s e k.
    key-found doc q r places _ _ _ _ _ _ _ _ _ _ _ s k _ _ e _ c.numbered.ensures
    (left_one _ s.kind_least c.if-terms-eq2.false c.if-terms-eq3.false c.if-terms-ge5.false c.if-terms-eq4.false) u.0 u.1 u.2
