-- `prepare::select::left_after` meets its contract, at each of its three answers.
use native.Mathlib.Omega.{arith}
use Rattle.prepare.proofs.Descending.{passes-ended, passes-miss, passes-hit}
use Rattle.prepare.proofs.select.left_after.Goals as goal

pub returns-then-before-lt2 : goal.returns-then-before-lt2
returns-then-before-lt2 c = passes-ended _ _ _ _ c.if-before-lt2.true

pub returns-then-name_fits : goal.returns-then-name_fits
returns-then-name_fits c =
    passes-hit _ _ _ _ c.if-before-lt2.false c.requires.1 _ (omega arith) _ c.name_fits.ensures c.if-name_fits.true

pub returns : goal.returns
returns c =
    passes-miss _ _ _ _ c.if-before-lt2.false c.requires.1 _ (omega arith) _ c.name_fits.ensures c.if-name_fits.false
