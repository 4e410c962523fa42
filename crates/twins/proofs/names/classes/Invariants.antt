-- `twins::names::classes` meets its contract: below i the items of one number have one class and one name, and no two share one unless `shared` says so.
use mathlib.Core.Path.{◌≡◌}
use mathlib.Core.Bool.{false}
use Rattle.twins.specs.Classed.{Classed, Alone}
use Rattle.twins.proofs.names.classes.Given as goal

abbrev pub invariant-loop-i : goal.invariant-loop-i
invariant-loop-i l = Classed l.records.kind.now l.records.name.now l.records.item.now l.class l.i × (l.shared ≡ false → Alone l.records.kind.now l.records.item.now l.i)
