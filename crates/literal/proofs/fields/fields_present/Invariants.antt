-- `literal::fields::fields_present` meets its contract: those below f are counted.
use Prim.Native.Nat.{ℕ, ◌≤◌}
use mathlib.Core.Path.{◌≡◌}
use mathlib.Core.Bool.{Bool, ◌&&◌}
use Rattle.meaning.specs.declared.Rule.{Rule}
use Rattle.meaning.specs.Document.{Doc}
use Rattle.meaning.specs.Walk.{count}
use Rattle.meaning.specs.Select.{field_of}
use Rattle.columns.specs.Lent.{TreeOf}
use Rattle.marks.specs.Marks.{Marks}
use Rattle.literal.proofs.fields.fields_present.Given as goal

abbrev pub invariant-loop-f : goal.invariant-loop-f
invariant-loop-f l = (l.many ≤ l.f)
    × ((doc : Doc) (p : ℕ → Bool) (r : Rule) → TreeOf doc l.records → Marks p doc.size l.present → r.field ≡ l.field → l.many ≡ count (λ g. field_of doc r l.v g && p g) 0 l.f)
