-- `document::clash::meets_item` meets its contract: what is left is to find a version of item i below `at`.
use lib.ListN.{length}
use Rattle.meaning.specs.Nodes.{share_day}
use Rattle.document.specs.Steady.{periods_in}
use Rattle.document.proofs.Meeting.{Down}
use Rattle.document.proofs.clash.meets_item.Given as goal

abbrev pub invariant-loop-past_v : goal.invariant-loop-past_v
invariant-loop-past_v l = Down l.of.records.kind.now l.of.records.parent.now 2 (length l.of.records.kind.now) l.i (share_day (periods_in l.of.records) l.u) l.past_v

abbrev pub decreases-loop-past_v : goal.decreases-loop-past_v
decreases-loop-past_v l = l.past_v
