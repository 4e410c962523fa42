-- `parts::alone::sorted` meets its contract: what is sorted are some of the n records.
use Rattle.parts.proofs.Matching.{sorted_below}
use Rattle.parts.proofs.alone.sorted.Goals as goal

pub along-requires : goal.along-requires
along-requires c =
    let p = c.requires in
    (p.1, p.2, p.3, sorted_below _ _ _ _ _ c.versions_by-by_begin.ensures.in_order, p.4)
