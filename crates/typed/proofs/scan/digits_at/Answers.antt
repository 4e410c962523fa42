-- `typed::scan::digits_at` meets its contract. The invariant: the digits that are left lead to what all of them spell.
use mathlib.Core.Path.{◌≡◌, sym, ◌∙◌}
use native.Mathlib.Omega.{arith}
use borrow.Author.Rules.{rules}
use Rattle.typed.proofs.Numerals.{digit_code, left-all, left-on, left-none, left_end}
use Rattle.typed.proofs.scan.digits_at.Goals as goal

pub loop-next-init : goal.loop-next-init
loop-next-init c = (omega arith, omega arith, left-all _ _)

pub returns-then-not-is_digit : goal.returns-then-not-is_digit
returns-then-not-is_digit c =
    let l = c.loop-next in
    left-none _ l.next l.value c.loop-next-test.true (sym c.is_digit.ensures ∙ c.if-not-is_digit.true) l.invariant.0 ∙ l.invariant.2

pub longer-value-requires : goal.longer-value-requires
longer-value-requires c =
    let code = digit_code _ (sym c.is_digit.ensures ∙ c.if-not-is_digit.false) in
    (c.loop-next.invariant.0, code.0, code.1)

pub loop-next-preserved : goal.loop-next-preserved
loop-next-preserved c =
    let l = c.loop-next in
    let digit = sym c.is_digit.ensures ∙ c.if-not-is_digit.false in
    (omega (arith, c.longer-value.ensures), omega arith, left-on _ l.next l.value (search rules) digit c.longer-value.ensures ∙ l.invariant.2)

pub returns : goal.returns
returns c =
    let l = c.loop-next in
    let last : c.max-next.result ≡ l.next = omega arith in
    rw last (left_end _ l.next l.value c.loop-next-test.false l.invariant.0 ∙ l.invariant.2)
