-- `prepare::reads::mark_by` meets its contract: below i each record has its mark.
use mathlib.Core.Path.{refl}
use native.Mathlib.Omega.{arith}
use lib.ListN.{length-set}
use Rattle.prepare.proofs.Filling.{filled_none, filled-store, filled-marks}
use Rattle.prepare.proofs.reads.mark_by.Goals as goal

pub loop-i-init : goal.loop-i-init
loop-i-init c = (refl, λ doc rule all m h. filled_none _ _)

pub loop-i-preserved : goal.loop-i-preserved
loop-i-preserved c =
    let s = c.loop-i in
    (simp length-set s.invariant.0, λ doc rule all m h. filled-store _ (s.invariant.1 doc rule all m h) (omega arith) _ (c.read_mark.ensures doc rule all m h))

pub returns : goal.returns
returns c =
    let s = c.loop-i in
    λ doc rule all m h. filled-marks _ _ _ _ (s.invariant.1 doc rule all m h) (omega arith) (omega arith)
