-- `block::count_records` meets its contract.
use Rattle.std.proofs.Common.{arith, rules}
use Rattle.block.proofs.Places.{its_blocks, count-all}
use Rattle.block.proofs.count_records.Goals as goal

pub overflow_sub-last : goal.overflow_sub-last
overflow_sub-last c = omega (arith, its_blocks c.requires)

pub slice_bounds-two_at-end : goal.slice_bounds-two_at-end
slice_bounds-two_at-end c = omega (arith, its_blocks c.requires)

pub records_before-requires : goal.records_before-requires
records_before-requires c =
    let g = its_blocks c.requires in
    (search rules, omega arith)

pub returns : goal.returns
returns c =
    count-all c.requires c.records_before.ensures.0 c.two_at-count.ensures
