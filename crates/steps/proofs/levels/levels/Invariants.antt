-- `steps::levels::levels` meets its contract: below j each place has its level.
use mathlib.Core.Path.{◌≡◌}
use lib.ListN.{length}
use Rattle.prepare.proofs.Filling.{Filled}
use Rattle.steps.proofs.Levelling.{LevelIs}
use Rattle.steps.proofs.levels.levels.Given as goal

abbrev pub invariant-loop-j : goal.invariant-loop-j
invariant-loop-j l = (length l.out ≡ length l.initial.out) × Filled (LevelIs l.which l.records.vkind.now l.records.value.now l.records.begin.now l.records.end.now l.order) l.j l.out
