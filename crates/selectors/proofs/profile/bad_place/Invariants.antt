-- `selectors::profile::bad_place` meets its contract. The invariant: what is left of the text leads to the answer on the whole.
use Rattle.selectors.proofs.Phases.{Scanning}
use Rattle.selectors.proofs.profile.bad_place.Given as goal

abbrev pub invariant-loop-i : goal.invariant-loop-i
invariant-loop-i l = Scanning l.text l.phase l.left l.i
