-- `plain::opened::slice_of` meets its contract: a day past the last, and the list.
use Rattle.opening.proofs.Slicing.{slice-late, slice-listed}
use Rattle.plain.proofs.Received.{slice-asked, of_image}
use Rattle.plain.proofs.opened.slice_of.Goals as goal

pub returns-then-day-gt-LAST : goal.returns-then-day-gt-LAST
returns-then-day-gt-LAST c nodes u = slice-late nodes _ _ u c.requires.1 c.if-day-gt-LAST.true

pub slice_front-requires : goal.slice_front-requires
slice_front-requires c = slice-asked c.requires.0.0 c.requires.0.1 c.requires.1 c.all.ensures

pub returns : goal.returns
returns c nodes u =
    let listed = c.slice_front.ensures in
    slice-listed nodes _ _ u c.requires.1 c.if-day-gt-LAST.false (of_image nodes u c.requires.1 c.all.ensures listed.answer) (of_image nodes u c.requires.1 c.all.ensures listed.lent)
