-- `crowds::crowd` meets its contract: the tallies are cleared first.
use borrow.Author.Rules.{rules}
use Rattle.crowds.proofs.Ends.{room-kept, cleared_tally}
use Rattle.crowds.proofs.crowd.Goals as goal

pub sweep-requires : goal.sweep-requires
sweep-requires c =
    let p = c.requires in
    (p.0, p.1, room-kept p.2 (search rules), p.3, cleared_tally c.args.n c.fill.new.self _ (search rules))
