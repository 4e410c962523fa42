-- `selectors::dictionary::number_in` meets its contract. The invariant: the lines that are left give the name the number that all give it.
use Prim.Native.Nat.{◌-◌}
use lib.ListN.{take}
use Rattle.selectors.specs.Parts.{parts}
use Rattle.selectors.specs.Dictionary.{number_in}
use Rattle.selectors.proofs.Looking.{Left}
use Rattle.selectors.proofs.dictionary.number_in.Given as goal

abbrev pub invariant-loop-k : goal.invariant-loop-k
invariant-loop-k l = Left l.d l.name l.at (l.count - l._k) (number_in (take l.count (parts 10 l.d)) l.name)
