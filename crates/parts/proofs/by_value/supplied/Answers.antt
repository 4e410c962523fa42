-- `parts::by_value::supplied` meets its contract: marked ones and those that have a key stand in one order.
use Rattle.parts.proofs.Resorting.{ordered_ground, marked-on, marked-ordered}
use Rattle.parts.proofs.Parting.{marked-kind, keyed-kind, supply-ordered, few-first}
use Rattle.parts.proofs.by_value.supplied.Goals as goal

pub too_few-requires : goal.too_few-requires
too_few-requires c =
    let s = c.part.ensures in
    let p = c.requires in
    let o = marked-ordered _ _ _ _ _ c.versions_by-sorted.ensures.in_order _ (keyed-kind _ p.0 _ _ _ _ _ _ _ s) in (
      record { few = p.0; ground = ordered_ground _ _ _ _ _ o s.in_from p.5; in_keys = s.in_supply; by_begin = o; by_end = supply-ordered _ p.0 _ _ _ _ _ _ _ s _ _ p.7 },
      p.1,
      p.6,
      p.8,
      p.9,
      p.10,
    )

pub returns : goal.returns
returns c =
    let s = c.part.ensures in
    let p = c.requires in
    few-first _ p.0 _ _ _ _ _ _ _ s _ _ _ _ _ p.6
    (λ x h e. marked-on _ _ _ _ _ c.versions_by-sorted.ensures.in_order x h (marked-kind _ p.0 _ _ _ _ _ _ _ s x h e))
    c.too_few.ensures
