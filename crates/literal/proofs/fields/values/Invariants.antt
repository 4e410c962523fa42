-- `literal::fields::values` meets its contract: those below f are counted.
use Prim.Native.Nat.{ℕ, ◌≤◌, ◌<◌}
use mathlib.Core.Path.{◌≡◌}
use mathlib.Core.Bool.{Bool}
use lib.ListN.{length}
use Rattle.meaning.specs.declared.Rule.{Rule}
use Rattle.meaning.specs.Document.{Doc}
use Rattle.meaning.specs.Select.{gives}
use Rattle.literal.specs.Laid.{LaidIn}
use Rattle.literal.specs.Counts.{Counts}
use Rattle.literal.proofs.fields.values.Given as goal

abbrev pub invariant-loop-f : goal.invariant-loop-f
invariant-loop-f l = (l.many ≤ l.f) × (0 < l.many → l.only < length l.records.kind.now)
    × ((doc : Doc) (p : ℕ → Bool) (r : Rule) → LaidIn doc p l.records l.present → r.field ≡ l.field → Counts (gives doc p r l.v) l.f l.many l.only)
