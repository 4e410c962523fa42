-- `literal::first_offender` meets its contract: what is left at v is the walk from v on.
use mathlib.Core.Path.{◌≡◌}
use mathlib.Core.Bool.{Bool}
use Prim.Native.Nat.{ℕ, ◌-◌}
use Rattle.meaning.specs.declared.Rule.{Rule}
use Rattle.meaning.specs.Document.{Doc}
use Rattle.meaning.specs.Walk.{first}
use Rattle.meaning.specs.Select.{selected}
use Rattle.meaning.specs.Day.{offends}
use Rattle.marks.specs.Marks.{Marks}
use Rattle.literal.specs.Posed.{PosedFor}
use Rattle.literal.proofs.first_offender.Given as goal

abbrev pub invariant-loop-v : goal.invariant-loop-v
invariant-loop-v l = (doc : Doc) (p : ℕ → Bool) (q : Rule) → PosedFor doc p q l.records l.asked → Marks (selected doc l.asked.rule) doc.size l.asked.own.now
    → first (offends doc p q l.asked.rule) l.v (doc.size - l.v) ≡ first (offends doc p q l.asked.rule) 0 doc.size
