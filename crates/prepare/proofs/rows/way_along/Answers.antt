-- `prepare::rows::way_along` meets its contract: the way is laid from i on, and `at` is the nearest marked record from there.
use mathlib.Core.Path.{refl}
use native.Mathlib.Omega.{arith}
use lib.ListN.{length-set}
use Rattle.prepare.proofs.Skipping.{laid_none, laid-store, laid-skips}
use Rattle.prepare.proofs.rows.way_along.Goals as goal

pub loop-i-init : goal.loop-i-init
loop-i-init c = (refl, λ passes m. laid_none passes _ _)

pub loop-i-preserved : goal.loop-i-preserved
loop-i-preserved c =
    let s = c.loop-i in
    (simp length-set s.invariant.0, λ passes m. laid-store passes _ _ _ _ (s.invariant.1 passes m) _ m (omega arith) (omega arith) (omega arith) _ c.nearer-at.ensures)

pub returns : goal.returns
returns c =
    let s = c.loop-i in
    λ passes m. laid-skips passes _ _ _ _ (s.invariant.1 passes m) (omega arith) (omega arith) _ c.index.ensures
