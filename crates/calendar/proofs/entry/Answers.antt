-- `calendar::entry` meets its contract: what is required of the table gives entry k below 1,200, and entry 1,200 from there on.
-- Assumes nothing.
use mathlib.Core.Path.{sym, ◌∙◌}
use Prim.Native.Nat.{min}
use native.Mathlib.Omega.{arith}
use Rattle.calendar.specs.Entries.{MonthTable}
use Rattle.calendar.proofs.Months.{start_least}
use Rattle.calendar.proofs.entry.Goals as goal

pub returns : goal.returns
unfolding MonthTable
returns c =
    let k = c.args.k in
    rw c.min.ensures (c.requires (min k 1200) (omega arith) ∙ sym (start_least k))
