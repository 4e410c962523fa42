-- `typed::read_into` meets its contract: the first line is a count or not, and the lines after it are read where it is one of records.
use mathlib.Core.Path.{sym, ◌∙◌}
use borrow.Author.Tests.{leb-true}
use lib.Dec.{leb}
use Rattle.meaning.specs.Block.{limit}
use Rattle.meaning.proofs.Basics.{and_r}
use Rattle.typed.proofs.Texts.{room-less, text-bad, text-count, text-lines}
use Rattle.typed.proofs.read_into.Goals as goal

pub returns-in_default : goal.returns-in_default
returns-in_default c =
    text-bad _ (sym c.number_at.ensures ∙ c.in_default.is) _

pub returns-then-not-count : goal.returns-then-not-count
returns-then-not-count c =
    text-count _ (sym c.in-Some.ensures) c.if-not-count.true _

pub read_lines-requires : goal.read_lines-requires
read_lines-requires c =
    let n = c.in-Some.count in
    let few = leb-true n limit (and_r (leb 1 n) (leb n limit) c.if-not-count.false) in
    (few, room-less few c.requires)

pub returns : goal.returns
returns c =
    text-lines _ (sym c.in-Some.ensures) c.if-not-count.false c.read_lines.ensures
