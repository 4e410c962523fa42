-- `literal::only::only_values` meets its contract: the entries below u are made.
use mathlib.Core.Path.{refl}
use Prim.Native.Nat.{◌<◌}
use native.Mathlib.Omega.{arith}
use lib.ListN.{length, length-set}
use Rattle.literal.proofs.Fielding.{lies-few}
use Rattle.literal.proofs.Alone.{filled_none, filled-store, filled-inside, filled-only}
use Rattle.literal.proofs.only.only_values.Goals as goal

pub loop-u-init : goal.loop-u-init
loop-u-init c = (refl, filled_none _ _, λ doc p q l w m. filled_none _ _)

pub bounds-only-u : goal.bounds-only-u
bounds-only-u c = omega (arith, lies-few _ _ _ c.requires.1.lies)

pub loop-u-preserved : goal.loop-u-preserved
loop-u-preserved c =
    let s = c.loop-u in
    let x = c.only_value.ensures in
    let room : s.u < length s.only = omega (arith, lies-few _ _ _ c.requires.1.lies) in (
      simp length-set s.invariant.0,
      filled-store _ s.invariant.1 room _ x.0,
      λ doc p q l w m. filled-store _ (s.invariant.2 doc p q l w m) room _ (x.1 doc p q l w m),
    )

pub returns : goal.returns
returns c =
    let s = c.loop-u in
    let few = lies-few _ _ _ c.requires.1.lies in (
      filled-inside _ _ _ s.invariant.1 (omega arith) (omega arith),
      λ doc p q l w m. filled-only doc p q _ _ (s.invariant.2 doc p q l w m) (omega (arith, l.tree.kind.size)),
    )
