-- `prepare::fields::holders` meets its contract: below i each record has its holder.
use mathlib.Core.Path.{refl}
use native.Mathlib.Omega.{arith}
use lib.ListN.{length-set}
use Rattle.prepare.proofs.Filling.{filled_none, filled-store}
use Rattle.prepare.proofs.Holding.{tree-few, filled-holders}
use Rattle.prepare.proofs.fields.holders.Goals as goal

pub loop-i-init : goal.loop-i-init
loop-i-init c = (refl, λ doc t. filled_none _ _)

pub offset_bounds-out-i : goal.offset_bounds-out-i
offset_bounds-out-i c = omega (arith, tree-few _ _ _ c.requires)

pub bounds-out-i : goal.bounds-out-i
bounds-out-i c = omega (arith, tree-few _ _ _ c.requires)

pub loop-i-preserved : goal.loop-i-preserved
loop-i-preserved c =
    let s = c.loop-i in
    let few = tree-few _ _ _ c.requires in
    (simp length-set s.invariant.0, λ doc t. filled-store _ (s.invariant.1 doc t) (omega arith) _ (c.holder.ensures doc _ t refl))

pub returns : goal.returns
returns c =
    let s = c.loop-i in
    let few = tree-few _ _ _ c.requires in
    λ doc t. filled-holders doc _ _ _ (s.invariant.1 doc t) (omega (arith, t.kind.size)) (omega (arith, t.kind.size))
