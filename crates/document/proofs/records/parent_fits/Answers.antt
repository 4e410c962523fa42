-- `document::records::parent_fits` meets its contract. Assumes nothing.
use mathlib.Core.Path.{sym}
use native.Mathlib.Omega.{arith}
use Rattle.document.proofs.Rows.{fits-root, fits-high, fits_by}
use Rattle.document.proofs.records.parent_fits.Goals as goal

pub returns-then-i-eq0 : goal.returns-then-i-eq0
returns-then-i-eq0 c = sym (fits-root _ _ _ c.index-p.ensures c.if-i-eq0.true)

pub returns-then-i-p : goal.returns-then-i-p
returns-then-i-p c = sym (fits-high _ _ _ c.index-p.ensures c.if-i-eq0.false (omega (arith, c.if-i-p.true)))

pub returns : goal.returns
returns c =
    sym (fits_by _ _ _ c.index-p.ensures c.if-i-eq0.false (omega (arith, c.if-i-p.false)))
