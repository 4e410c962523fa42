-- `paths::reading::mark_read` meets its contract: below i each record has its mark.
use mathlib.Core.Path.{refl}
use native.Mathlib.Omega.{arith}
use lib.ListN.{length-set}
use Rattle.paths.proofs.Climbing.{tree-few}
use Rattle.paths.proofs.Filling.{marks-none, marks-more, marks-all, marks-as}
use Rattle.paths.proofs.Fielding.{reads-either}
use Rattle.paths.proofs.reading.mark_read.Goals as goal

pub loop-i-init : goal.loop-i-init
loop-i-init c = (refl, λ doc t g m n. marks-none _ _)

pub read_mark-requires : goal.read_mark-requires
read_mark-requires c =
    let p = c.requires in
    (omega arith, omega (arith, p.1.kind.size, p.3), omega (arith, p.1.kind.size, p.4), (p.0, p.1, p.2))

pub bounds-marks-i : goal.bounds-marks-i
bounds-marks-i c =
    let p = c.requires in
    omega (arith, tree-few _ _ _ (p.0, p.1, p.2))

pub loop-i-preserved : goal.loop-i-preserved
loop-i-preserved c =
    let s = c.loop-i in
    let p = c.requires in
    let few = tree-few _ _ _ (p.0, p.1, p.2) in
    (simp length-set s.invariant.0, λ doc t g m n. marks-more (s.invariant.1 doc t g m n) (omega arith) _ (c.read_mark.ensures doc _ _ t g refl refl m n))

pub returns : goal.returns
returns c =
    let s = c.loop-i in
    λ doc q t g m n a b. marks-as _ (marks-all _ (s.invariant.1 doc t g m n) (omega (arith, t.kind.size))) (λ k. reads-either doc q _ _ k a b)
