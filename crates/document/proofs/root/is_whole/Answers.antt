-- `document::root::is_whole` meets its contract: each record is skipped, goes on from the last end, or ends the walk.
use Rattle.meaning.specs.Document.{version_of}
use Rattle.document.proofs.Run.{run-start, run-skip, run_on, run-stop, run_end}
use Rattle.document.proofs.root.is_whole.Goals as goal
use Rattle.document.proofs.root.is_whole.Goals.{then-records-i+then-last-records, else-records-i}

pub loop-i-init : goal.loop-i-init
loop-i-init c = run-start _

pub returns-else-last-records : goal.returns-else-last-records
unfolding version_of
returns-else-last-records c = run-stop _ _ _ c.loop-i.invariant c.loop-i-test.true c.if-records-i.true c.if-last-records.false

pub loop-i-preserved : goal.loop-i-preserved
unfolding version_of
loop-i-preserved c =
    let s = c.loop-i.invariant in
    let h = c.loop-i-test.true in
    elim c.if-records-i.branch [
      | then-records-i+then-last-records w ↦ rw w.last-is (run_on _ _ _ s h w.if-records-i.true w.if-last-records.true)
      | else-records-i w ↦ rw w.last-is (run-skip _ _ _ s h w.if-records-i.false)
    ]

pub returns : goal.returns
returns c = run_end _ _ _ c.loop-i.invariant c.loop-i-test.false
