-- `typed::scan::digits_at` meets its contract. The invariant: the digits that are left lead to what all of them spell, and the place is none behind the text but the first.
use mathlib.Core.Path.{◌≡◌}
use Prim.Native.Nat.{◌≤◌, max}
use lib.ListN.{length}
use Rattle.typed.specs.Numeral.{top, digits_at}
use Rattle.typed.proofs.Numerals.{left}
use Rattle.typed.proofs.scan.digits_at.Given as goal

abbrev pub invariant-loop-next : goal.invariant-loop-next
invariant-loop-next l = (l.value ≤ top) × (l.next ≤ max l.at (length l.text)) × (left l.text l.next l.value ≡ digits_at l.text l.at)
