-- `rules::fields::places_fit` meets its contract. The invariant: some place from k on is wrong exactly where some place is.
use mathlib.Core.Path.{sym, ap, ◌∙◌}
use mathlib.Core.Bool.{not}
use Rattle.rules.proofs.Walked.{any-ends}
use Rattle.rules.proofs.Rows.{place-right, place-wrong}
use Rattle.rules.proofs.fields.places_fit.Goals as goal

pub returns-then-not-place_fits : goal.returns-then-not-place_fits
returns-then-not-place_fits c =
    let a = c.args in
    ap not (sym (place-wrong a.path a.steps c.loop-k.k c.loop-k-test.true c.place_fits.ensures (ap not c.if-not-place_fits.true)) ∙ c.loop-k.invariant)

pub loop-k-preserved : goal.loop-k-preserved
loop-k-preserved c =
    let a = c.args in
    place-right a.path a.steps c.loop-k.k c.loop-k-test.true c.place_fits.ensures (ap not c.if-not-place_fits.false) ∙ c.loop-k.invariant

pub returns : goal.returns
returns c = ap not (sym (any-ends _ 8 _ c.loop-k-test.false) ∙ c.loop-k.invariant)
