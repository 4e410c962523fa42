-- `changes::merging::list_changes` meets its contract: what is left to store from the k-th entry on completes the list.
use mathlib.Core.Path.{◌≡◌}
use Prim.Native.Nat.{◌≤◌, ◌<◌}
use lib.ListN.{length}
use Rattle.meaning.specs.declared.Rule.{Rule}
use Rattle.meaning.specs.Document.{Doc}
use Rattle.changes.specs.Walks.{MergesAlong}
use Rattle.changes.proofs.Tallied.{all, Filled}
use Rattle.changes.proofs.merging.list_changes.Given as goal

abbrev pub invariant-loop-k : goal.invariant-loop-k
invariant-loop-k l = (h : l.first < l.past) × (l.n ≤ length l.initial.out)
    × ((doc : Doc) → (q r : Rule) → MergesAlong doc q r l.walk → (e : l.first ≡ r.begin)
    → l.n ≡ length (all doc q r l.walk.opens.now l.walk.closes.now l.first l.past)
    → Filled doc q r l.walk.opens.now l.walk.closes.now l.first l.past e h l.initial.out l.out l.at.begun l.at.ended l.at.day l.k)
