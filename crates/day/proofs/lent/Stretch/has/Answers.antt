-- `day::lent::Stretch::has` meets its contract: its two tests are those of the definition.
use Rattle.day.proofs.lent.Stretch.has.Goals as goal

pub returns : goal.returns
returns c = rw (c.index.ensures, c.index-2.ensures)
