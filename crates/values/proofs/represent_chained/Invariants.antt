-- `values::represent_chained` meets its contract: each record below f has its entry.
use mathlib.Core.Path.{◌≡◌}
use lib.ListN.{length}
use Rattle.meaning.specs.Block.{limit}
use Rattle.values.specs.Chosen.{held_by, ChosenBelow}
use Rattle.values.proofs.represent_chained.Given as goal

abbrev pub invariant-loop-f : goal.invariant-loop-f
invariant-loop-f l = (length l.rep ≡ limit) × ChosenBelow (held_by l.records) l.f l.rep
