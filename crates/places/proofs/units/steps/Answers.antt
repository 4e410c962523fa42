-- `places::units::steps` meets its contract: none, or as many as the division says.
use Prim.Native.Nat.{◌-◌}
use native.Mathlib.Omega.{arith}
use native.Mathlib.Nat.{div-le_self}
use Rattle.places.proofs.Counts.{steps-none, steps-some}
use borrow.Author.Rules.{rules}
use Rattle.places.proofs.units.steps.Goals as goal

pub returns-then-u-from : goal.returns-then-u-from
returns-then-u-from c = steps-none _ _ _ (omega arith)

pub overflow_add-result : goal.overflow_add-result
overflow_add-result c =
    let a = c.args in
    record { fits = omega (arith, div-le_self (a.u - a.from - 1) a.slide) }

pub returns : goal.returns
returns c = steps-some _ _ _ (search rules) (omega arith)
