-- `bank::opened::slice_of` meets its contract: a day past the last, and the list.
use Rattle.opening.proofs.Slicing.{slice-late}
use Rattle.bank.proofs.Slicing.{slice-fronts_lent, slice-stored_lent}
use Rattle.bank.proofs.opened.slice_of.Goals as goal

pub returns-then-day-gt-LAST : goal.returns-then-day-gt-LAST
returns-then-day-gt-LAST c nodes u = slice-late nodes _ _ u c.requires.1 c.if-day-gt-LAST.true

pub slice_front-requires : goal.slice_front-requires
slice_front-requires c =
    slice-fronts_lent c.requires.0.0 c.args.day c.args.out.now c.requires.0.1 c.requires.1 c.all.ensures

pub returns : goal.returns
returns c nodes u =
    slice-stored_lent nodes c.args.day c.args.out.now u c.requires.1 c.all.ensures c.if-day-gt-LAST.false c.slice_front.ensures.answer c.slice_front.ensures.lent
