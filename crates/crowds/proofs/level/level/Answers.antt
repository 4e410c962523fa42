-- `crowds::level::level` meets its contract: the tallies are cleared first.
use borrow.Author.Rules.{rules}
use Rattle.crowds.proofs.Ends.{room-kept, cleared_tally}
use Rattle.crowds.proofs.level.level.Goals as goal

pub walk-requires : goal.walk-requires
walk-requires c =
    let p = c.requires in
    (p.0, p.1, room-kept p.2 (search rules), p.3, p.4, p.5, p.6, cleared_tally c.args.n c.fill.new.self _ (search rules), p.7)
