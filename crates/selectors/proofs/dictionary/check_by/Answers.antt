-- `selectors::dictionary::check_by` meets its contract. The loop's invariant is `Upto`: the lines above are good, and their keys of the class are in the sieve.
use mathlib.Core.Path.{refl, sym, ◌∙◌}
use native.Mathlib.Omega.{arith}
use Rattle.selectors.proofs.Lines.{line_read}
use Rattle.selectors.proofs.Sieves.{wiped_room}
use Rattle.selectors.proofs.Checking.{upto_start, upto_fits, upto_end, upto_bad, upto_twice, upto_next}
use Rattle.selectors.proofs.dictionary.check_by.Goals as goal

pub loop-at-init : goal.loop-at-init
loop-at-init c = (refl, upto_start _ _ _ (wiped_room _ c.clear.ensures c.requires.0))

pub returns-in_default : goal.returns-in_default
returns-in_default c =
    upto_bad c.loop-at.invariant.1 c.loop-at-test.true (sym c.line_at.ensures ∙ c.in_default.is)

pub slice_bounds-stood-count : goal.slice_bounds-stood-count
slice_bounds-stood-count c = omega (arith, (line_read _ _ (sym c.in-Some.ensures)).begun)

pub slice_bounds-stood-start : goal.slice_bounds-stood-start
slice_bounds-stood-start c = omega (arith, (line_read _ _ (sym c.in-Some.ensures)).begun)

pub slice_bounds-stood-end : goal.slice_bounds-stood-end
slice_bounds-stood-end c = let r = line_read _ _ (sym c.in-Some.ensures) in omega (arith, r.begun, r.before, r.inside)

pub stood-requires : goal.stood-requires
stood-requires c = (c.loop-at.invariant.1.sifted, c.requires.1)

pub returns-then-stood : goal.returns-then-stood
returns-then-stood c =
    upto_twice c.loop-at.invariant.1 (line_read _ _ (sym c.in-Some.ensures)) (sym c.stood.ensures.again ∙ c.if-stood.true)

pub overflow_add-k : goal.overflow_add-k
overflow_add-k c = record { fits = omega (arith, upto_fits c.loop-at.invariant.1) }

pub loop-at-smaller : goal.loop-at-smaller
loop-at-smaller c = let r = line_read _ _ (sym c.in-Some.ensures) in omega (arith, r.begun, r.before, r.inside)

pub loop-at-preserved : goal.loop-at-preserved
loop-at-preserved c =
    let loop = c.loop-at in
    let took = c.stood.ensures.took in
    (omega (arith, took.size, loop.invariant.0), upto_next loop.invariant.1 (line_read _ _ (sym c.in-Some.ensures)) (sym c.stood.ensures.again ∙ c.if-stood.false) took)

pub returns : goal.returns
returns c = upto_end c.loop-at.invariant.1 c.loop-at-test.false
