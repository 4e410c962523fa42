-- `day::first_row` meets its contract: for every document that the lists hold, the walk has come to row v, and no row below it offends.
use Prim.Native.Nat.{◌-◌}
use mathlib.Core.Path.{◌≡◌}
use lib.ListN.{length}
use Rattle.meaning.specs.declared.Rule.{Rule}
use Rattle.meaning.specs.Document.{Doc}
use Rattle.meaning.specs.Select.{selected}
use Rattle.prepare.specs.Rows.{in_row}
use Rattle.day.specs.Along.{size, there, stands, ReadyAlong}
use Rattle.day.proofs.Walking.{Looked}
use Rattle.day.proofs.first_row.Given as goal

abbrev pub invariant-loop-v : goal.invariant-loop-v
invariant-loop-v l = (length l.seen ≡ length l.initial.seen)
    × ((doc : Doc) (r : Rule) → ReadyAlong doc r l.trail l.stretch
    → Looked (there l.stretch) (size l.stretch) (stands l.stretch) (selected doc r) (in_row doc r) l.bounds.mode l.initial.seen l.bounds.low l.bounds.high l.v l.seen)

abbrev pub decreases-loop-v : goal.decreases-loop-v
decreases-loop-v l = size l.stretch - l.v
