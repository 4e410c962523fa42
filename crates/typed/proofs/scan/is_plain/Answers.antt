-- `typed::scan::is_plain` meets its contract.
use Rattle.typed.specs.Numeral.{is_plain}
use Rattle.typed.proofs.scan.is_plain.Goals as goal

pub returns : goal.returns
unfolding is_plain
returns c = rw c.stands.ensures
