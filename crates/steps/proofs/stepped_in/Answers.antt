-- `steps::stepped_in` meets its contract: the walk has come to record f, and nothing below it offends in the window.
use mathlib.Core.Path.{sym, ◌∙◌}
use Rattle.steps.proofs.Skipping.{looked_start, looked_end, looked_found, looked_less, looked_next, found_in}
use Rattle.steps.proofs.stepped_in.Goals as goal

pub loop-f-init : goal.loop-f-init
loop-f-init c =
    looked_start _ _ _ _ _ _ _ _ c.requires.way

pub returns-then-offends_in : goal.returns-then-offends_in
returns-then-offends_in c =
    λ doc q r w p s ok flat kind fr to low.
    found_in doc q r w _ _ _ p s ok flat kind _ _ fr to low _
    (looked_found _ _ _ _ _ _ _ _ c.requires.way _ c.loop-f.invariant c.loop-f-test.true (sym c.offends_in.ensures ∙ c.if-offends_in.true))

pub loop-f-smaller : goal.loop-f-smaller
loop-f-smaller c =
    looked_less _ _ _ _ _ _ _ _ c.requires.way _ c.loop-f.invariant c.loop-f-test.true _ c.index-f.ensures

pub loop-f-preserved : goal.loop-f-preserved
loop-f-preserved c =
    looked_next _ _ _ _ _ _ _ _ c.requires.way _ c.loop-f.invariant c.loop-f-test.true _ c.index-f.ensures
    (sym c.offends_in.ensures ∙ c.if-offends_in.false)

pub returns : goal.returns
returns c =
    λ doc q r w p s ok flat kind fr to low.
    found_in doc q r w _ _ _ p s ok flat kind _ _ fr to low _
    (looked_end _ _ _ _ _ _ _ _ c.requires.way _ c.loop-f.invariant c.loop-f-test.false)
