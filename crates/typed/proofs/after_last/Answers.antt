-- `typed::after_last` meets its contract.
use borrow.Author.Tests.{eq-eqb, ne_eqb}
use Rattle.typed.specs.Listing.{lines_at}
use Rattle.typed.proofs.after_last.Goals as goal

pub returns-then-at-text : goal.returns-then-at-text
unfolding lines_at
returns-then-at-text c = rw (eq-eqb _ _ c.if-at-text.true)

pub returns : goal.returns
unfolding lines_at
returns c = rw (ne_eqb _ _ c.if-at-text.false)
