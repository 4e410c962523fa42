-- `plain::counting::count_changes` meets its contract: a day at a time.
use mathlib.Core.Path.{sym, ◌∙◌}
use native.Mathlib.Omega.{arith}
use borrow.Author.Rules.{rules}
use Rattle.meaning.specs.Day.{is_change}
use Rattle.plain.proofs.Tallying.{counted_start, counted-yes, counted-no, counted-end}
use Rattle.plain.proofs.counting.count_changes.Goals as goal
use Rattle.plain.proofs.counting.count_changes.Goals.{then-is_change, else-is_change}

pub loop-d-init : goal.loop-d-init
loop-d-init c = (search rules, λ doc q r p m e. counted_start (is_change doc q r) _ _)

pub loop-d-preserved : goal.loop-d-preserved
loop-d-preserved c =
    let i = c.loop-d.invariant in
    let same = c.is_change.ensures in
    elim c.if-is_change.branch [
      | then-is_change w ↦ (
        omega (arith, i.0),
        λ doc q r p m e. counted-yes (is_change doc q r) _ _ _ _ (i.1 doc q r p m e) c.loop-d-test.true (sym (same doc q r p m e) ∙ w.if-is_change.true) w.n-is,
      )
      | else-is_change w ↦ (
        omega (arith, i.0),
        λ doc q r p m e. counted-no (is_change doc q r) _ _ _ _ (i.1 doc q r p m e) c.loop-d-test.true (sym (same doc q r p m e) ∙ w.if-is_change.false) w.n-is,
      )
    ]

pub returns : goal.returns
returns c doc q r p m e = counted-end (is_change doc q r) _ _ _ _ (c.loop-d.invariant.1 doc q r p m e) c.loop-d-test.false
