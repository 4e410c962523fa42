-- `parts::keys::numbered` meets its contract: below i each record has its own number.
use mathlib.Core.Path.{◌≡◌}
use Rattle.prepare.proofs.Filling.{Filled}
use Rattle.parts.proofs.keys.numbered.Given as goal

abbrev pub invariant-loop-i : goal.invariant-loop-i
invariant-loop-i l = Filled (λ k x. x ≡ k) l.i l.out
