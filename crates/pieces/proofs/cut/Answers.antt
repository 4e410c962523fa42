-- `pieces::cut` meets its contract: the records from i on are done.
use mathlib.Core.Path.{refl}
use native.Mathlib.Omega.{arith}
use Rattle.pieces.proofs.Ranking.{in_n}
use Rattle.pieces.proofs.Cutting.{cutting_none, cutting_skip, cutting_more, cutting_end}
use Rattle.pieces.proofs.cut.Goals as goal

pub loop-i-init : goal.loop-i-init
loop-i-init c = cutting_none _ _ _ _ _ _ refl _

pub loop-i-preserved : goal.loop-i-preserved
loop-i-preserved c =
    cutting_skip _ _ _ _ _ _ _ (omega arith) _ _ c.loop-i.invariant _ c.index-x.ensures (omega arith)

pub loop-i-preserved-then-k-n : goal.loop-i-preserved-then-k-n
loop-i-preserved-then-k-n c =
    let p = c.requires in
    let x = in_n p.0 _ (omega arith) c.index-x.ensures in
    cutting_more _ _ _ _ _ _ _ (omega arith) _ _ c.loop-i.invariant _ c.index-x.ensures p.0.rising _ c.index-k.ensures (omega arith) (omega arith) (omega arith) _ (omega arith)

pub returns : goal.returns
returns c = cutting_end _ _ _ _ _ _ _ _ c.loop-i.invariant (omega arith)
