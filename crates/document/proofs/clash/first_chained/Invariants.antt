-- `document::clash::first_chained` meets its contract: what is left at i is the walk over the records from i on.
use Prim.Native.Nat.{◌≤◌, ◌-◌}
use mathlib.Core.Path.{◌≡◌}
use lib.ListN.{length}
use Rattle.meaning.specs.Walk.{first}
use Rattle.meaning.specs.Nodes.{clashes}
use Rattle.twins.specs.Clear.{unvalued}
use Rattle.document.proofs.clash.first_chained.Given as goal

abbrev pub invariant-loop-i : goal.invariant-loop-i
invariant-loop-i l = (l.i ≤ length l.of.records.kind.now)
    × (first (clashes (unvalued l.of.records)) l.i (length l.of.records.kind.now - l.i) ≡ first (clashes (unvalued l.of.records)) 0 (length l.of.records.kind.now))
