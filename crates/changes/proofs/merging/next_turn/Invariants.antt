-- `changes::merging::next_turn` meets its contract: the next position from i on is the next one from `from` on.
use mathlib.Core.Path.{◌≡◌}
use lib.ListN.{length, get_or}
use Rattle.marks.specs.Marks.{after}
use Rattle.changes.specs.Merging.{turns_after}
use Rattle.changes.proofs.merging.next_turn.Given as goal

abbrev pub invariant-loop-i : goal.invariant-loop-i
invariant-loop-i l = after (λ k. turns_after l.days l.read.own.now l.read.reference l.read.referred.now l.day (get_or l.order k 0)) l.i (length l.order)
    ≡ after (λ k. turns_after l.days l.read.own.now l.read.reference l.read.referred.now l.day (get_or l.order k 0)) l.from (length l.order)
