-- `judging::walking::lay` meets its contract: of a sequenced rule nothing is promised.
use mathlib.Core.Path.{sym, ◌∙◌}
use mathlib.Core.Bool.{false≢true}
use borrow.Author.Tests.{eq-eqb}
use Rattle.judging.proofs.walking.lay.Goals as goal

pub returns-then-r-eq0 : goal.returns-then-r-eq0
returns-then-r-eq0 c =
    λ doc k s rows. absurd (false≢true (sym s ∙ eq-eqb _ 0 c.if-r-eq0.true))

pub returns : goal.returns
returns c = λ doc k s rows. c.lay_out.ensures doc k.tree k.values_held k.periods k.classes k.closed k.judgeable s rows
