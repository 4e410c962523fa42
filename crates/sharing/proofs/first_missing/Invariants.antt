-- `sharing::first_missing` meets its contract: for every document that the lists hold, no row below v has a value that is not marked.
use Prim.Native.Nat.{◌-◌}
use Rattle.meaning.specs.declared.Rule.{Rule}
use Rattle.meaning.specs.Document.{Doc}
use Rattle.meaning.specs.Select.{selected}
use Rattle.prepare.specs.Rows.{in_row}
use Rattle.day.specs.Along.{size, there, stands, ReadyAlong}
use Rattle.marks.specs.Marks.{marked}
use Rattle.sharing.proofs.Walking.{Missed}
use Rattle.sharing.proofs.first_missing.Given as goal

abbrev pub invariant-loop-v : goal.invariant-loop-v
invariant-loop-v l = (doc : Doc) (r : Rule) → ReadyAlong doc r l.trail l.stretch → Missed (there l.stretch) (size l.stretch) (stands l.stretch) (selected doc r) (in_row doc r) (marked l.seen) l.v

abbrev pub decreases-loop-v : goal.decreases-loop-v
decreases-loop-v l = size l.stretch - l.v
