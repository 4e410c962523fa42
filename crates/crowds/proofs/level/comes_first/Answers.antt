-- `crowds::level::comes_first` meets its contract: no record is left, or the next one is looked at.
use mathlib.Core.Path.{refl}
use native.Mathlib.Omega.{arith}
use borrow.Author.Rules.{rules}
use lib.ListN.{length}
use Prim.Native.Nat.{◌<◌}
use Rattle.crowds.proofs.Turns.{first-none, first_some}
use Rattle.crowds.proofs.level.comes_first.Goals as goal
use Rattle.crowds.proofs.level.comes_first.Goals.{After-index}

-- x has a number in lo
x_fits : (c : After-index) → c.index.result < length c.args.lo.now
x_fits c = omega (arith, c.requires c.args.i (search rules), c.index.ensures)

pub returns-then-order-i : goal.returns-then-order-i
returns-then-order-i c = first-none _ _ _ _ (search rules)

pub returns : goal.returns
returns c = first_some _ _ _ _ _ (search rules) c.index.ensures _ refl
