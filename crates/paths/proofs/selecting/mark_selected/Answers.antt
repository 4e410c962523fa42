-- `paths::selecting::mark_selected` meets its contract: below i each record has its mark.
use mathlib.Core.Path.{refl}
use native.Mathlib.Omega.{arith}
use lib.ListN.{length-set}
use Rattle.paths.proofs.Climbing.{tree-few}
use Rattle.paths.proofs.Filling.{marks-none, marks-more, marks-all}
use Rattle.paths.proofs.selecting.mark_selected.Goals as goal

pub loop-i-init : goal.loop-i-init
loop-i-init c = (refl, λ doc t. marks-none _ _)

pub bounds-marks-i : goal.bounds-marks-i
bounds-marks-i c = omega (arith, tree-few _ _ _ c.requires.1)

pub loop-i-preserved : goal.loop-i-preserved
loop-i-preserved c =
    let s = c.loop-i in
    let few = tree-few _ _ _ c.requires.1 in
    (simp length-set s.invariant.0, λ doc t. marks-more (s.invariant.1 doc t) (omega arith) _ (c.selected_mark.ensures doc _ t refl refl))

pub returns : goal.returns
returns c = let s = c.loop-i in λ doc t. marks-all _ (s.invariant.1 doc t) (omega (arith, t.kind.size))
