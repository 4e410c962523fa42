-- `counting::counting_in` meets its contract: its marks are clear, and nothing has a token.
use Rattle.counting.proofs.Leading.{fresh_both}
use Rattle.counting.proofs.counting_in.Goals as goal

pub first_counted-requires : goal.first_counted-requires
first_counted-requires c =
    let p = c.requires in
    (p.0, p.1, p.2, fresh_both p.2)

pub returns : goal.returns
returns c = c.first_counted.ensures
