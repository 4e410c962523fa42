-- `typed::scan::number_at` meets its contract.
use mathlib.Core.Path.{◌≡◌, sym, ◌∙◌}
use mathlib.Core.Bool.{true}
use native.Mathlib.Omega.{arith}
use Rattle.typed.specs.Numeral.{stands}
use Rattle.typed.proofs.Scans.{stands-inside, after-digits, number-good, number-unended, number-odd}
use Rattle.typed.proofs.scan.number_at.Goals as goal
use Rattle.typed.proofs.scan.number_at.Goals.{Else-not-stands}

-- the byte that ends the number stands after its digits
abbrev ended : (c : Else-not-stands) → stands c.args.text.now c.digits_at-digits.result.next c.args.stop ≡ true
ended c = sym c.stands.ensures ∙ c.if-not-stands.false

pub returns-then-not-stands : goal.returns-then-not-stands
returns-then-not-stands c = number-unended _ _ _ _ c.digits_at-digits.ensures (sym c.stands.ensures ∙ c.if-not-stands.true)

pub is_plain-requires : goal.is_plain-requires
is_plain-requires c = omega (arith, stands-inside _ _ _ (ended (goal.at.is_plain-requires c).Else-not-stands), after-digits _ _ c.digits_at-digits.ensures)

pub overflow_add-result : goal.overflow_add-result
overflow_add-result c = record { fits = omega (arith, stands-inside _ _ _ (ended (goal.at.overflow_add-result c).Else-not-stands)) }

pub returns-then-is_plain-value : goal.returns-then-is_plain-value
returns-then-is_plain-value c =
    number-good _ _ _ _ c.digits_at-digits.ensures (ended (goal.at.returns-then-is_plain-value c).Else-not-stands) (rw c.is_plain.ensures at c.if-is_plain-value.true)

pub returns : goal.returns
returns c =
    number-odd _ _ _ _ c.digits_at-digits.ensures (ended (goal.at.returns c).Else-not-stands) (rw c.is_plain.ensures at c.if-is_plain-value.false)
