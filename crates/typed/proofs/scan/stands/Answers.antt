-- `typed::scan::stands` meets its contract.
use borrow.Author.Tests.{lt-ltb, le-ltb}
use Rattle.typed.specs.Numeral.{stands}
use Rattle.typed.proofs.scan.stands.Goals as goal

pub returns-then-at-text : goal.returns-then-at-text
unfolding stands
returns-then-at-text c = simp (lt-ltb _ _ c.if-at-text.true)

pub returns : goal.returns
unfolding stands
returns c = simp (le-ltb _ _ c.if-at-text.false)
