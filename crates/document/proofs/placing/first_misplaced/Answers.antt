-- `document::placing::first_misplaced` meets its contract. The invariant: every version below i was placed, and `last` has the last end for each item.
-- Assumes nothing.
use mathlib.Core.Path.{refl}
use native.Mathlib.Omega.{arith}
use lib.ListN.{length-set}
use Rattle.document.proofs.Ends.{pass_start, pass_end, pass_skip, pass_hit, pass_store}
use Rattle.document.proofs.Ways.{version-lower, leaves-same, way}
use Rattle.document.proofs.placing.first_misplaced.Goals as goal
use Rattle.document.proofs.placing.first_misplaced.Goals.{then-records-i-eq2+else-records-i, else-records-i-eq2}

pub loop-i-init : goal.loop-i-init
loop-i-init c = (refl, c.requires.few, pass_start _ _ refl)

pub up-p-requires : goal.up-p-requires
up-p-requires c =
    let pre = c.requires in
    (omega arith, version-lower _ pre.steady _ c.loop-i-test.true c.if-records-i-eq2.true)

pub leaves-requires : goal.leaves-requires
leaves-requires c =
    let pre = c.requires in
    way _ _ _ _ pre _ _ c.loop-i-test.true c.if-records-i-eq2.true c.up-p.ensures.0

pub returns-then-records-i : goal.returns-then-records-i
returns-then-records-i c =
    let r = c.args.records in
    let place = c.loop-i.i in
    pass_hit _ _ place c.loop-i.invariant.2 c.if-records-i-eq2.true _ c.up-p.ensures.0 _ (leaves-same r.kind.now r.parent.now r.begin.now r.end.now place _ c.leaves.ensures)
    c.if-records-i.true c.loop-i-test.true

pub loop-i-preserved : goal.loop-i-preserved
loop-i-preserved c =
    let inv = c.loop-i.invariant in
    let r = c.args.records in
    let place = c.loop-i.i in
    elim c.if-records-i-eq2.branch [
      | then-records-i-eq2+else-records-i w ↦ rw w.last-is (
        simp length-set inv.0,
        simp length-set inv.1,
        pass_store _ _ place inv.2 w.if-records-i-eq2.true _ w.up-p.ensures.0 _ (leaves-same r.kind.now r.parent.now r.begin.now r.end.now place _ w.leaves.ensures) w.if-records-i.false
            (omega (arith, w.up-p.ensures.1)) (c.requires.steady.period place c.loop-i-test.true w.if-records-i-eq2.true),
      )
      | else-records-i-eq2 w ↦ rw w.last-is (inv.0, inv.1, pass_skip _ _ _ inv.2 w.if-records-i-eq2.false)
    ]

pub returns : goal.returns
returns c = pass_end _ _ _ c.loop-i.invariant.2 c.loop-i-test.false
