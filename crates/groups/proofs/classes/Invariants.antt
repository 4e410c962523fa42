-- `groups::classes` meets its contract: each record below i has its class.
use mathlib.Core.Path.{◌≡◌}
use lib.ListN.{length}
use Rattle.prepare.proofs.Filling.{Filled}
use Rattle.groups.specs.Classes.{document, Class}
use Rattle.groups.proofs.classes.Given as goal

abbrev pub invariant-loop-i : goal.invariant-loop-i
invariant-loop-i l = (length l.class ≡ length l.initial.class) × Filled (Class (document l.nest)) l.i l.class
