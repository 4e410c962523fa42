-- `steps::sweep::ask` meets its contract: below f each record has the answer of its search.
use mathlib.Core.Path.{◌≡◌}
use lib.ListN.{length}
use Rattle.prepare.proofs.Filling.{Filled}
use Rattle.steps.proofs.Levelling.{AskIs}
use Rattle.steps.proofs.sweep.ask.Given as goal

abbrev pub invariant-loop-f : goal.invariant-loop-f
invariant-loop-f l = (length l.out ≡ length l.initial.out) × Filled (AskIs l.which l.value l.start l.days l.low l.high l.level l.below l.leap) l.f l.out
