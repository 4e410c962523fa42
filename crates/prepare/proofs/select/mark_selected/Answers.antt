-- `prepare::select::mark_selected` meets its contract: below i each record has what is left below it.
use mathlib.Core.Path.{refl}
use native.Mathlib.Omega.{arith}
use lib.ListN.{length-set}
use Rattle.prepare.proofs.Filling.{filled_none, filled-store}
use Rattle.prepare.proofs.Holding.{tree-few}
use Rattle.prepare.proofs.Descending.{left-marks}
use Rattle.prepare.proofs.select.mark_selected.Goals as goal

pub loop-i-init : goal.loop-i-init
loop-i-init c = (refl, λ doc t. filled_none _ _)

pub left_below-requires : goal.left_below-requires
left_below-requires c =
    let p = c.requires in
    let g = p.1 in
    let few = tree-few _ _ _ g in
    let f = c.loop-i.invariant.1 g.0 g.1 in
    record {
      doc = g.0;
      tree = g.1;
      judgeable = g.2;
      here = omega arith;
      room = omega arith;
      short = p.0;
      few = λ w h. (f.entry w h).most;
    }

pub bounds-left-i : goal.bounds-left-i
bounds-left-i c = omega (arith, tree-few _ _ _ c.requires.1)

pub loop-i-preserved : goal.loop-i-preserved
loop-i-preserved c =
    let s = c.loop-i in
    let few = tree-few _ _ _ c.requires.1 in
    (simp length-set s.invariant.0, λ doc t. let f = s.invariant.1 doc t in filled-store _ f (omega arith) _ (c.left_below.ensures doc _ t refl refl f.entry))

pub returns : goal.returns
returns c =
    let s = c.loop-i in
    let few = tree-few _ _ _ c.requires.1 in
    λ doc t. left-marks _ _ _ _ (s.invariant.1 doc t) (omega (arith, t.kind.size)) (omega (arith, t.kind.size))
