-- `selectors::line::put_path` meets its contract: what was put so far are the first k numbers, each behind a space.
use Rattle.selectors.proofs.Spacing.{Pathing}
use Rattle.selectors.proofs.line.put_path.Given as goal

abbrev pub invariant-loop-number : goal.invariant-loop-number
invariant-loop-number l = Pathing l.initial.line l.at l.path l.line l.to l.number-index
