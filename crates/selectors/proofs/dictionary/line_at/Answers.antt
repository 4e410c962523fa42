-- `selectors::dictionary::line_at` meets its contract: a law for each way out.
use mathlib.Core.Path.{◌≡◌, sym, ◌∙◌}
use mathlib.Core.Bool.{true}
use native.Mathlib.Omega.{arith}
use lib.ListN.{drop}
use Rattle.typed.specs.Numeral.{stands}
use Rattle.typed.proofs.Scans.{stands-inside, number-most}
use Rattle.selectors.specs.Lining.{begins}
use Rattle.selectors.proofs.Lines.{line-unbegun, line-unspaced, line-unnumbered, line-zero, line-whole}
use Rattle.selectors.proofs.dictionary.line_at.Goals as goal
use Rattle.selectors.proofs.dictionary.line_at.Goals.{Else-not-begins, Else-not-stands}

-- a name begins there
abbrev begins-there : (c : Else-not-begins) → begins (drop c.args.at c.args.d.now) ≡ true
begins-there c = sym c.begins.ensures ∙ c.if-not-begins.false

-- a space stands behind the name
abbrev space-there : (c : Else-not-stands) → stands c.args.d.now c.run_end-end.result 32 ≡ true
space-there c = sym c.stands.ensures ∙ c.if-not-stands.false

pub returns-then-not-begins : goal.returns-then-not-begins
returns-then-not-begins c = line-unbegun _ _ (sym c.begins.ensures ∙ c.if-not-begins.true)

pub returns-then-not-stands : goal.returns-then-not-stands
returns-then-not-stands c =
    line-unspaced _ _ c.run_end-end.ensures (begins-there (goal.at.returns-then-not-stands c).Else-not-begins) (sym c.stands.ensures ∙ c.if-not-stands.true)

pub overflow_add-end : goal.overflow_add-end
overflow_add-end c = record { fits = omega (arith, stands-inside _ _ _ (space-there (goal.at.overflow_add-end c).Else-not-stands)) }

pub returns-in_err-value : goal.returns-in_err-value
returns-in_err-value c =
    rw c.from_residual.ensures
    (line-unnumbered _ _ c.run_end-end.ensures (begins-there (goal.at.returns-in_err-value c).Else-not-begins) (space-there (goal.at.returns-in_err-value c).Else-not-stands)
    (sym c.number_at.ensures ∙ c.in_err-value.was))

pub returns-then-value-eq0 : goal.returns-then-value-eq0
returns-then-value-eq0 c =
    line-zero _ _ c.run_end-end.ensures (begins-there (goal.at.returns-then-value-eq0 c).Else-not-begins) (space-there (goal.at.returns-then-value-eq0 c).Else-not-stands)
    (sym c.in_ok-value.ensures)
    c.if-value-eq0.true

pub overflow_cast-number : goal.overflow_cast-number
overflow_cast-number c = record { fits = omega (arith, number-most _ _ _ _ (sym c.in_ok-value.ensures)) }

pub returns : goal.returns
returns c =
    line-whole _ _ c.run_end-end.ensures (begins-there (goal.at.returns c).Else-not-begins) (space-there (goal.at.returns c).Else-not-stands)
    (sym c.in_ok-value.ensures)
    c.if-value-eq0.false
