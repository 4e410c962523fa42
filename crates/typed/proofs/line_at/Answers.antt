-- `typed::line_at` meets its contract: the eight numbers one after the other, each read where the one before it ended.
use mathlib.Core.Path.{sym, ◌∙◌}
use native.Mathlib.Omega.{arith}
use mir.Syntax.{w32}
use Rattle.numbers.proofs.Signs.{given}
use Rattle.typed.specs.Listing.{line_at}
use Rattle.typed.proofs.Scans.{number-most, value-fits}
use Rattle.typed.proofs.line_at.Goals as goal

pub returns-in_err-kind : goal.returns-in_err-kind
unfolding line_at
returns-in_err-kind c = rw (c.from_residual.ensures, sym c.number_at.ensures ∙ c.in_err-kind.was)

pub returns-in_err-vkind : goal.returns-in_err-vkind
unfolding line_at
returns-in_err-vkind c = rw (c.from_residual-in_err-vkind.ensures, sym c.in_ok-kind.ensures, sym c.number_at-2.ensures ∙ c.in_err-vkind.was)

pub returns-in_err-name : goal.returns-in_err-name
unfolding line_at
returns-in_err-name c = rw (c.from_residual-in_err-name.ensures, sym c.in_ok-kind.ensures, sym c.in_ok-vkind.ensures, sym c.number_at-3.ensures ∙ c.in_err-name.was)

pub returns-in_err-parent : goal.returns-in_err-parent
unfolding line_at
returns-in_err-parent c = rw (c.from_residual-in_err-parent.ensures, sym c.in_ok-kind.ensures, sym c.in_ok-vkind.ensures, sym c.in_ok-name.ensures, sym c.number_at-4.ensures ∙ c.in_err-parent.was)

pub returns-in_err-begin : goal.returns-in_err-begin
unfolding line_at
returns-in_err-begin c = rw (c.from_residual-in_err-begin.ensures, sym c.in_ok-kind.ensures, sym c.in_ok-vkind.ensures, sym c.in_ok-name.ensures, sym c.in_ok-parent.ensures, sym c.number_at-5.ensures ∙ c.in_err-begin.was)

pub returns-in_err-end : goal.returns-in_err-end
unfolding line_at
returns-in_err-end c = rw (c.from_residual-in_err-end.ensures, sym c.in_ok-kind.ensures, sym c.in_ok-vkind.ensures, sym c.in_ok-name.ensures, sym c.in_ok-parent.ensures, sym c.in_ok-begin.ensures, sym c.number_at-6.ensures ∙ c.in_err-end.was)

pub returns-in_err-value : goal.returns-in_err-value
unfolding line_at
returns-in_err-value c = rw (c.from_residual-in_err-value.ensures, sym c.in_ok-kind.ensures, sym c.in_ok-vkind.ensures, sym c.in_ok-name.ensures, sym c.in_ok-parent.ensures, sym c.in_ok-begin.ensures, sym c.in_ok-end.ensures, sym c.value_at.ensures ∙ c.in_err-value.was)

pub returns-in_err-item : goal.returns-in_err-item
unfolding line_at
returns-in_err-item c = rw (c.from_residual-in_err-item.ensures, sym c.in_ok-kind.ensures, sym c.in_ok-vkind.ensures, sym c.in_ok-name.ensures, sym c.in_ok-parent.ensures, sym c.in_ok-begin.ensures, sym c.in_ok-end.ensures, sym c.in_ok-value.ensures, sym c.number_at-7.ensures ∙ c.in_err-item.was)

pub overflow_cast-result : goal.overflow_cast-result
overflow_cast-result c = record { fits = omega (arith, number-most _ _ _ _ (sym c.in_ok-kind.ensures)) }

pub overflow_cast-result-2 : goal.overflow_cast-result-2
overflow_cast-result-2 c = record { fits = omega (arith, number-most _ _ _ _ (sym c.in_ok-vkind.ensures)) }

pub overflow_cast-result-3 : goal.overflow_cast-result-3
overflow_cast-result-3 c = record { fits = omega (arith, number-most _ _ _ _ (sym c.in_ok-name.ensures)) }

pub overflow_cast-result-4 : goal.overflow_cast-result-4
overflow_cast-result-4 c = record { fits = omega (arith, number-most _ _ _ _ (sym c.in_ok-parent.ensures)) }

pub overflow_cast-result-5 : goal.overflow_cast-result-5
overflow_cast-result-5 c = record { fits = omega (arith, number-most _ _ _ _ (sym c.in_ok-begin.ensures)) }

pub overflow_cast-result-6 : goal.overflow_cast-result-6
overflow_cast-result-6 c = record { fits = omega (arith, number-most _ _ _ _ (sym c.in_ok-end.ensures)) }

pub overflow_cast-result-7 : goal.overflow_cast-result-7
overflow_cast-result-7 c = record { fits = omega (arith, number-most _ _ _ _ (sym c.in_ok-item.ensures)) }

pub returns : goal.returns
unfolding line_at
returns c = rw (sym c.in_ok-kind.ensures, sym c.in_ok-vkind.ensures, sym c.in_ok-name.ensures, sym c.in_ok-parent.ensures, sym c.in_ok-begin.ensures, sym c.in_ok-end.ensures, sym c.in_ok-value.ensures, sym c.in_ok-item.ensures, given w32 (value-fits _ _ _ (sym c.in_ok-value.ensures)))
