-- `counting::first_counted` meets its contract: for every document that the lists hold, the walk has come to version v, and none below it offends.
use Prim.Native.Nat.{◌+◌, ◌-◌}
use mathlib.Core.Path.{◌≡◌}
use lib.ListN.{length, get_or}
use Rattle.meaning.specs.declared.Rule.{Rule}
use Rattle.meaning.specs.Document.{Doc}
use Rattle.meaning.specs.Select.{selected}
use Rattle.counting.specs.Number.{Below}
use Rattle.day.specs.Along.{size, there}
use Rattle.counting.specs.Ready.{ReadyAlong}
use Rattle.counting.proofs.Looking.{Looked}
use Rattle.counting.proofs.Offence.{bad_in}
use Rattle.counting.proofs.first_counted.Given as goal

abbrev pub invariant-loop-v : goal.invariant-loop-v
invariant-loop-v l = (length l.done ≡ length l.initial.done) × (length l.seen ≡ length l.initial.seen) × Below (l.v + 1) l.seen
    × ((doc : Doc) (r : Rule) → ReadyAlong doc r l.trail l.stretch l.group
    → Looked (size l.stretch) (selected doc r) (there l.stretch) (λ u. get_or l.group u 0) (bad_in l.stretch l.asked doc r) l.v l.done)

abbrev pub decreases-loop-v : goal.decreases-loop-v
decreases-loop-v l = size l.stretch - l.v
