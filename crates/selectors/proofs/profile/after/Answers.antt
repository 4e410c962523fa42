-- `selectors::profile::after` meets its contract.
use mathlib.Core.Path.{◌≡◌, sym, ◌∙◌}
use mathlib.Core.Bool.{false}
use borrow.Author.Rules.{rules}
use Rattle.selectors.specs.Profile.{is_first}
use Rattle.selectors.proofs.Phases.{begun, starred, neither, slashed, ninth, within, strange, behind}
use Rattle.selectors.proofs.profile.after.Goals as goal
use Rattle.selectors.proofs.profile.after.Goals.{Else-is_first}

-- no name begins with the byte
abbrev unfirst : (c : Else-is_first) → is_first c.args.x ≡ false
unfirst c = sym c.is_first.ensures ∙ c.if-is_first.false

pub returns-then-is_first : goal.returns-then-is_first
returns-then-is_first c = begun _ _ _ c.if-phase-eq-AHEAD.true (sym c.is_first.ensures ∙ c.if-is_first.true)

pub returns-then-x-eq-STAR : goal.returns-then-x-eq-STAR
returns-then-x-eq-STAR c = starred _ _ _ c.if-phase-eq-AHEAD.true (unfirst (goal.at.returns-then-x-eq-STAR c).Else-is_first) c.if-x-eq-STAR.true

pub returns-then-phase-eq-AHEAD : goal.returns-then-phase-eq-AHEAD
returns-then-phase-eq-AHEAD c = neither _ _ _ c.if-phase-eq-AHEAD.true (unfirst (goal.at.returns-then-phase-eq-AHEAD c).Else-is_first) c.if-x-eq-STAR.false

pub returns-then-left-gt1 : goal.returns-then-left-gt1
returns-then-left-gt1 c = slashed _ _ _ c.if-phase-eq-AHEAD.false c.if-x-eq-SLASH.true c.if-left-gt1.true

pub returns-then-x-eq-SLASH : goal.returns-then-x-eq-SLASH
returns-then-x-eq-SLASH c = ninth _ _ _ c.if-phase-eq-AHEAD.false c.if-x-eq-SLASH.true (search rules)

pub returns-then-is_inner : goal.returns-then-is_inner
returns-then-is_inner c =
    within _ _ _ c.if-phase-eq-NAME.true c.if-x-eq-SLASH.false (sym c.is_inner.ensures ∙ c.if-is_inner.true)

pub returns-then-phase-eq-NAME : goal.returns-then-phase-eq-NAME
returns-then-phase-eq-NAME c =
    strange _ _ _ c.if-phase-eq-NAME.true c.if-x-eq-SLASH.false (sym c.is_inner.ensures ∙ c.if-is_inner.false)

pub returns : goal.returns
returns c = behind _ _ _ c.if-phase-eq-AHEAD.false c.if-x-eq-SLASH.false c.if-phase-eq-NAME.false
