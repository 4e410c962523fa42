-- `selectors::dictionary::run_end` meets its contract. The invariant: the run from the place reached on ends where the whole run does.
use mathlib.Core.Path.{◌≡◌, refl, sym, ◌∙◌}
use native.Mathlib.Omega.{arith}
use Rattle.selectors.proofs.Runs.{run_on, run_none, run_end}
use Rattle.selectors.proofs.dictionary.run_end.Goals as goal

pub loop-end-init : goal.loop-end-init
loop-end-init c = (omega arith, refl)

pub returns-then-not-is_inner : goal.returns-then-not-is_inner
returns-then-not-is_inner c =
    run_none _ _ c.loop-end-test.true (sym c.is_inner.ensures ∙ c.if-not-is_inner.true) ∙ c.loop-end.invariant.1

pub loop-end-preserved : goal.loop-end-preserved
loop-end-preserved c =
    (omega arith, run_on _ _ c.loop-end-test.true (sym c.is_inner.ensures ∙ c.if-not-is_inner.false) ∙ c.loop-end.invariant.1)

pub returns : goal.returns
returns c =
    let last : c.max.result ≡ c.loop-end.end = omega arith in
    rw last (run_end _ _ c.loop-end-test.false ∙ c.loop-end.invariant.1)
