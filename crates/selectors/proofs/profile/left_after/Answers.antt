-- `selectors::profile::left_after` meets its contract.
use borrow.Author.Tests.{eq-eqb, ne_eqb}
use Rattle.selectors.specs.Scan.{left_after}
use Rattle.selectors.proofs.profile.left_after.Goals as goal

pub returns-then-phase-eq-AHEAD : goal.returns-then-phase-eq-AHEAD
unfolding left_after
returns-then-phase-eq-AHEAD c = simp (eq-eqb _ _ c.if-phase-eq-AHEAD.true)

pub returns-else-phase-eq-AHEAD : goal.returns-else-phase-eq-AHEAD
unfolding left_after
returns-else-phase-eq-AHEAD c = simp (ne_eqb _ _ c.if-phase-eq-AHEAD.false)
