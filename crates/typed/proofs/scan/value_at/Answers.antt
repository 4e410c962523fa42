-- `typed::scan::value_at` meets its contract.
use mathlib.Core.Path.{sym, ◌∙◌}
use native.Mathlib.Omega.{arith}
use mir.Syntax.{w32}
use Rattle.numbers.proofs.Signs.{given}
use Rattle.typed.proofs.Scans.{stands-inside, number-most, value-up, value-no_up, value-down, value-zero, value-no_down}
use Rattle.typed.proofs.scan.value_at.Goals as goal

pub returns-in_err-up : goal.returns-in_err-up
returns-in_err-up c = rw c.from_residual.ensures (value-no_up _ _ _ (sym c.stands.ensures ∙ c.if-not-stands.true) (sym c.number_at.ensures ∙ c.in_err-up.was))

pub overflow_cast-up : goal.overflow_cast-up
overflow_cast-up c = record { fits = omega (arith, number-most _ _ _ _ (sym c.in_ok-up.ensures)) }

pub returns-then-not-stands : goal.returns-then-not-stands
returns-then-not-stands c =
    value-up _ _ _ (sym c.stands.ensures ∙ c.if-not-stands.true) (sym c.in_ok-up.ensures) (given w32 c.signed_of.type_inv ∙ c.signed_of.ensures)

pub overflow_add-at : goal.overflow_add-at
overflow_add-at c = record { fits = omega (arith, stands-inside _ _ _ (sym c.stands.ensures ∙ c.if-not-stands.false)) }

pub returns-in_err-down : goal.returns-in_err-down
returns-in_err-down c =
    rw c.from_residual-in_err-down.ensures
    (value-no_down _ _ _ (sym c.stands.ensures ∙ c.if-not-stands.false) (sym c.number_at-2.ensures ∙ c.in_err-down.was))

pub returns-then-down-eq0 : goal.returns-then-down-eq0
returns-then-down-eq0 c =
    value-zero _ _ _ (sym c.stands.ensures ∙ c.if-not-stands.false) (sym c.in_ok-down.ensures) c.if-down-eq0.true

pub overflow_sub-down : goal.overflow_sub-down
overflow_sub-down c = omega (arith, number-most _ _ _ _ (sym c.in_ok-down.ensures))

pub returns : goal.returns
returns c =
    value-down _ _ _ (sym c.stands.ensures ∙ c.if-not-stands.false) (sym c.in_ok-down.ensures) c.if-down-eq0.false
    (given w32 c.signed_of-2.type_inv ∙ c.signed_of-2.ensures)
