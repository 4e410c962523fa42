-- `parts::by_value::resorted` meets its contract: the marked ones in order are those that have a key.
use Rattle.parts.proofs.Resorting.{ordered_ground, marked-ordered, key-marked}
use Rattle.parts.proofs.by_value.resorted.Goals as goal

pub too_many-requires : goal.too_many-requires
too_many-requires c =
    let p = c.requires in
    let o = marked-ordered _ _ _ _ _ c.versions_by-sorted.ensures.in_order _ (key-marked _ _ _ c.key_marks-marks.ensures) in
    (record { few = p.0; ground = ordered_ground _ _ _ _ _ o p.2 p.3; in_keys = p.1; by_begin = o; by_end = p.4 }, p.5, p.6, p.7)
