-- `document::placing::leaves` meets its contract. Assumes nothing.
use Rattle.std.proofs.Common.{[]}
use mathlib.Core.Path.{sym}
use native.Mathlib.Omega.{arith}
use Rattle.document.specs.Steady.{periods}
use Rattle.document.proofs.Ways.{leaves-root, leaves_by}
use Rattle.document.proofs.placing.leaves.Goals as goal

pub returns-then-p-eq0 : goal.returns-then-p-eq0
returns-then-p-eq0 c = sym (leaves-root _ _ _ c.requires.is c.if-p-eq0.true)

pub up-a-requires : goal.up-a-requires
up-a-requires c = (omega arith, c.requires.over c.if-p-eq0.false)

pub returns : goal.returns
returns c =
    let a = c.args in
    sym (leaves_by (periods [] a.records.parent.now a.records.begin.now a.records.end.now) a.v a.p c.requires.is c.up-a.result c.if-p-eq0.false c.up-a.ensures.0)
