-- `soonest::in_windows::in_windows` meets its contract: by the kind, what its parts promise is that nothing offends sooner.
use Rattle.soonest.proofs.Finding.{rooms, groups_small, number-opens_by, number-ends_by, reference-met, unique-met, key-met, cardinality-met, values-met, valued-of, left_key}
use borrow.Author.Rules.{rules}
use Rattle.parts.specs.Ground.{Crowding}
use Rattle.soonest.proofs.in_windows.in_windows.Goals as goal
use Rattle.soonest.proofs.in_windows.in_windows.Goals.{After-class_keys-2}

pub unheld-requires : goal.unheld-requires
unheld-requires c =
    let p = c.requires in
    let m = rooms _ _ _ _ _ _ _ _ _ _ _ _ _ _ _ p.1.4 _ p.1.6 in
    (m.few, m.ground, m.rows_room, m.others_room, m.small, p.0.in_two, p.0.in_one, p.0.in_three, p.0.in_four)

pub returns-then-terms-eq3 : goal.returns-then-terms-eq3
returns-then-terms-eq3 c =
    λ doc q r places s g e w k d z. reference-met doc q r places _ _ _ _ _ _ _ _ _ _ _ s w _ _ e c.if-terms-eq3.true c.unheld.ensures

pub class_keys-requires : goal.class_keys-requires
class_keys-requires c =
    let p = c.requires in
    let m = rooms _ _ _ _ _ _ _ _ _ _ _ _ _ _ _ p.1.4 _ p.1.6 in
    (m.rows_room, (groups_small _ _ _ p.1.6 p.1.5).room, p.0.in_one)

pub shared-requires : goal.shared-requires
shared-requires c =
    let p = c.requires in
    let m = rooms _ _ _ _ _ _ _ _ _ _ _ _ _ _ _ p.1.4 _ p.1.6 in
    (m.ground, m.rows_room, search (rules, p.0.in_one), m.small, p.0.in_two, p.0.in_three, p.0.in_four)

pub returns-then-terms-eq2 : goal.returns-then-terms-eq2
returns-then-terms-eq2 c =
    λ doc q r places s y e w k d z.
    unique-met doc q r places _ _ _ _ _ _ _ _ _ _ _ s w _ _ e _ _ y c.class_keys.ensures c.if-terms-eq2.true c.shared.ensures

pub key-requires : goal.key-requires
key-requires c =
    let p = c.requires in
    let m = rooms _ _ _ _ _ _ _ _ _ _ _ _ _ _ _ p.1.4 _ p.1.6 in
    (m.few, m.ground, m.chosen_room, m.rows_room, (groups_small _ _ _ p.1.6 p.1.5).room, m.small, p.0)

pub returns-then-terms-ne4 : goal.returns-then-terms-ne4
returns-then-terms-ne4 c =
    let u = c.key.ensures in
    λ doc q r places s y e w k d z.
    key-met doc q r places _ _ _ _ _ _ _ _ _ _ _ s w _ _ e _ _ y u.1.1 _ u.0.1
    (left_key _ s.kind_least c.if-terms-eq3.false c.if-terms-eq2.false c.if-terms-ne4.true k) u.0.2 u.1.2

pub class_keys-requires-2 : goal.class_keys-requires-2
class_keys-requires-2 c =
    let p = c.requires in
    let m = rooms _ _ _ _ _ _ _ _ _ _ _ _ _ _ _ p.1.4 _ p.1.6 in
    (m.rows_room, (groups_small _ _ _ p.1.6 p.1.5).room, p.0.in_one)

-- the records by the classes of their rows
crowding : (c : After-class_keys-2) → let a = c.args in
    Crowding a.course.order.now a.course.closes.now c.class_keys-2.new.out a.course.lo.now a.course.hi.now a.n
crowding c =
    let p = c.requires in
    let m = rooms _ _ _ _ _ _ _ _ _ _ _ _ _ _ _ p.1.4 _ p.1.6 in
    record {
      few = m.few;
      ground = m.ground;
      in_keys = search (rules, p.0.in_one);
      by_begin = number-opens_by _ _ _ _ _ _ _ _ _ _ _ _ _ _ _ p.1.4 c.args.known.group.now _ _ p.1.6 c.class_keys-2.ensures;
      by_end = number-ends_by _ _ _ _ _ _ _ _ _ _ _ _ _ _ _ p.1.4 c.args.known.group.now _ _ p.1.6 c.class_keys-2.ensures c.if-terms-ne4.false;
    }

pub cardinality-requires : goal.cardinality-requires
cardinality-requires c =
    let p = c.requires in
    let m = rooms _ _ _ _ _ _ _ _ _ _ _ _ _ _ _ p.1.4 _ p.1.6 in (
      crowding (goal.at.cardinality-requires c).After-class_keys-2,
      valued-of _ _ _ m.few (search (rules, p.0.in_one)) m.small,
      m.chosen_room,
      groups_small _ _ _ p.1.6 p.1.5,
      p.0.in_two,
      p.0.in_three,
      p.0.in_four,
    )

pub returns-then-terms-eq1 : goal.returns-then-terms-eq1
returns-then-terms-eq1 c =
    let u = c.cardinality.ensures in
    λ doc q r places s y e w k d z.
    values-met doc q r places _ _ _ _ _ _ _ _ _ _ _ s w _ _ e _ _ y c.class_keys-2.ensures c.if-terms-ne4.false _ d _ z c.if-terms-eq1.true u.0 u.1

pub cardinality-requires-2 : goal.cardinality-requires-2
cardinality-requires-2 c =
    let p = c.requires in
    let m = rooms _ _ _ _ _ _ _ _ _ _ _ _ _ _ _ p.1.4 _ p.1.6 in (
      crowding (goal.at.cardinality-requires-2 c).After-class_keys-2,
      m.chosen_room,
      groups_small _ _ _ p.1.6 p.1.5,
      p.0.in_two,
      p.0.in_three,
      p.0.in_four,
    )

pub returns : goal.returns
returns c =
    let u = c.cardinality-2.ensures in
    λ doc q r places s y e w k d z.
    cardinality-met doc q r places _ _ _ _ _ _ _ _ _ _ _ s w _ _ e _ _ y c.class_keys-2.ensures c.if-terms-ne4.false _ d _ z c.if-terms-eq1.false u.0 u.1
