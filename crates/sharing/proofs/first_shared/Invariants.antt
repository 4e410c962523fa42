-- `sharing::first_shared` meets its contract: for every document that the lists hold, no row below v offends, and the holders tell its values and their class.
use Prim.Native.Nat.{◌+◌, ◌-◌}
use mathlib.Core.Path.{◌≡◌}
use lib.ListN.{length, get_or}
use Rattle.meaning.specs.declared.Rule.{Rule}
use Rattle.meaning.specs.Document.{Doc}
use Rattle.meaning.specs.Select.{selected}
use Rattle.prepare.specs.Rows.{in_row}
use Rattle.day.specs.Along.{size, there, stands, ReadyAlong}
use Rattle.sharing.proofs.Walking.{Shared}
use Rattle.sharing.proofs.first_shared.Given as goal

abbrev pub invariant-loop-v : goal.invariant-loop-v
invariant-loop-v l = (length l.owner ≡ length l.initial.owner)
    × ((doc : Doc) (r : Rule) → ReadyAlong doc r l.trail l.stretch
    → Shared (there l.stretch) (size l.stretch) (stands l.stretch) (selected doc r) (in_row doc r) (λ u. get_or l.group u 0 + 1) l.needy l.v l.owner)

abbrev pub decreases-loop-v : goal.decreases-loop-v
decreases-loop-v l = size l.stretch - l.v
