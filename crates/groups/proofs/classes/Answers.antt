-- `groups::classes` meets its contract: each record below i has its class.
use mathlib.Core.Path.{refl}
use native.Mathlib.Omega.{arith}
use lib.ListN.{length-set}
use Rattle.prepare.proofs.Filling.{filled_none, filled-store}
use Rattle.groups.proofs.classes.Goals as goal

pub loop-i-init : goal.loop-i-init
loop-i-init c = (refl, filled_none _ _)

pub class_of-requires : goal.class_of-requires
class_of-requires c =
    let p = c.requires in
    let s = c.loop-i.invariant in
    (p, omega (arith, p.nested.few, s.0), omega arith, record { each = s.1.entry })

pub loop-i-preserved : goal.loop-i-preserved
loop-i-preserved c =
    let p = c.requires in
    let s = c.loop-i.invariant in
    (simp length-set s.0, filled-store _ s.1 (omega (arith, p.nested.few, s.0)) _ c.class_of.ensures)

pub returns : goal.returns
returns c =
    let s = c.loop-i.invariant in
    (s.0, record { each = λ j h. s.1.entry j (omega arith) })
