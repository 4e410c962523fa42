-- `steps::stacks::stack` meets its contract: below j every place has its step and its leap.
use mathlib.Core.Path.{◌≡◌}
use lib.ListN.{length}
use Rattle.steps.proofs.Stacking.{Growing}
use Rattle.steps.proofs.stacks.stack.Given as goal

abbrev pub invariant-loop-j : goal.invariant-loop-j
invariant-loop-j l = (length l.below ≡ length l.initial.below) × (length l.leap ≡ length l.initial.leap) × (length l.span ≡ length l.initial.span) × Growing l.level l.prior l.n l.j l.below l.leap
