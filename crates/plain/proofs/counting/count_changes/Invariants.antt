-- `plain::counting::count_changes` meets its contract: a day at a time.
use mathlib.Core.Path.{◌≡◌}
use Prim.Native.Nat.{◌≤◌}
use Rattle.meaning.specs.declared.Rule.{Rule}
use Rattle.meaning.specs.Document.{Doc}
use Rattle.meaning.specs.Select.{reads}
use Rattle.meaning.specs.Day.{is_change}
use Rattle.columns.specs.Lent.{Periods}
use Rattle.marks.specs.Marks.{Marks}
use Rattle.plain.proofs.Tallying.{Counted}
use Rattle.plain.proofs.counting.count_changes.Given as goal

abbrev pub invariant-loop-d : goal.invariant-loop-d
invariant-loop-d l = (l.n ≤ l.d)
    × ((doc : Doc) (q r : Rule) → Periods doc l.begin l.end → Marks (reads doc q r) doc.size l.read → r.begin ≡ l.first → Counted (is_change doc q r) l.first l.past l.n l.d)
