-- `literal::only::only_values` meets its contract: the entries below u are made.
use mathlib.Core.Path.{◌≡◌}
use mathlib.Core.Bool.{Bool}
use Prim.Native.Nat.{ℕ, ◌≤◌}
use lib.ListN.{length}
use Rattle.meaning.specs.declared.Rule.{Rule}
use Rattle.meaning.specs.Document.{Doc}
use Rattle.meaning.specs.Select.{selected}
use Rattle.marks.specs.Marks.{Marks}
use Rattle.literal.specs.Laid.{LaidIn}
use Rattle.literal.specs.Only.{OnlyOf}
use Rattle.literal.proofs.Alone.{Filled}
use Rattle.literal.proofs.only.only_values.Given as goal

abbrev pub invariant-loop-u : goal.invariant-loop-u
invariant-loop-u l = (length l.only ≡ length l.initial.only) × Filled (λ k x. x ≤ length l.records.kind.now) l.u l.only
    × ((doc : Doc) (p : ℕ → Bool) (q : Rule) → LaidIn doc p l.records l.present → q.field ≡ l.field → Marks (selected doc q) doc.size l.chosen → Filled (OnlyOf doc p q) l.u l.only)
