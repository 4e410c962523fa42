-- `changes::merging::count_changes` meets its contract: what is counted so far and what is left make up the whole.
use mathlib.Core.Path.{◌≡◌}
use Prim.Native.Nat.{◌≤◌, ◌<◌, ◌-◌}
use Rattle.meaning.specs.declared.Rule.{Rule}
use Rattle.meaning.specs.Document.{Doc}
use Rattle.changes.specs.Walks.{MergesAlong}
use Rattle.changes.proofs.Tallied.{Tally}
use Rattle.changes.proofs.merging.count_changes.Given as goal

abbrev pub invariant-loop-at : goal.invariant-loop-at
invariant-loop-at l = (l.first < l.past) × (l.n ≤ l.at.day)
    × ((doc : Doc) → (q r : Rule) → MergesAlong doc q r l.walk → l.first ≡ r.begin
    → Tally doc q r l.walk.opens.now l.walk.closes.now l.first l.past l.at.begun l.at.ended l.at.day l.n)

abbrev pub decreases-loop-at : goal.decreases-loop-at
decreases-loop-at l = l.past - l.at.day
