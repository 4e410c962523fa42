-- `selectors::dictionary::number_in` meets its contract. The invariant: the lines that are left give the name the number that all give it.
use mathlib.Core.Path.{◌≡◌, sym, ◌∙◌}
use Prim.Native.Nat.{◌+◌, ◌-◌}
use native.Mathlib.Omega.{arith}
use Rattle.selectors.proofs.Sameness.{compared}
use Rattle.selectors.proofs.Lines.{line_read}
use Rattle.selectors.proofs.Looking.{left-all, left-none, left-bad, left-hit, left-on}
use Rattle.selectors.proofs.dictionary.number_in.Goals as goal

pub loop-k-init : goal.loop-k-init
loop-k-init c = let all : c.args.count - 0 ≡ c.args.count = omega arith in rw all (left-all _ _ _ c.requires)

pub returns-in_default : goal.returns-in_default
returns-in_default c =
    absurd (left-bad c.loop-k.invariant (omega arith) (sym c.line_at.ensures ∙ c.in_default.is))

pub slice_bounds-eq-count : goal.slice_bounds-eq-count
slice_bounds-eq-count c = omega (arith, line_read _ _ (sym c.in-Some.ensures))

pub slice_bounds-eq-start : goal.slice_bounds-eq-start
slice_bounds-eq-start c = omega (arith, line_read _ _ (sym c.in-Some.ensures))

pub slice_bounds-eq-end : goal.slice_bounds-eq-end
slice_bounds-eq-end c = omega (arith, line_read _ _ (sym c.in-Some.ensures))

pub returns-then-eq : goal.returns-then-eq
returns-then-eq c =
    left-hit c.loop-k.invariant (omega arith) (sym c.in-Some.ensures)
    (sym (compared _ _) ∙ sym c.eq.ensures ∙ c.if-eq.true)

pub loop-k-preserved : goal.loop-k-preserved
loop-k-preserved c =
    let n = c.args.count in
    let k = c.loop-k._k in
    let fewer : n - k - 1 ≡ n - (k + 1) = omega arith in
    rw fewer at (left-on c.loop-k.invariant (omega arith) (sym c.in-Some.ensures) (sym (compared _ _) ∙ sym c.eq.ensures ∙ c.if-eq.false))

pub returns : goal.returns
returns c = left-none c.loop-k.invariant (omega arith)
