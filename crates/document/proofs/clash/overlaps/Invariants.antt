-- `document::clash::overlaps` meets its contract: what is left is to find a version of item j below `at` that meets item i.
use lib.ListN.{length}
use Rattle.document.specs.Meet.{meets_item}
use Rattle.document.specs.Steady.{periods_in}
use Rattle.document.proofs.Meeting.{Down}
use Rattle.document.proofs.clash.overlaps.Given as goal

abbrev pub invariant-loop-past_u : goal.invariant-loop-past_u
invariant-loop-past_u l = Down l.of.records.kind.now l.of.records.parent.now 2 (length l.of.records.kind.now) l.j (meets_item (periods_in l.of.records) l.i) l.past_u

abbrev pub decreases-loop-past_u : goal.decreases-loop-past_u
decreases-loop-past_u l = l.past_u
