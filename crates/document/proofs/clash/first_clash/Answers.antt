-- `document::clash::first_clash` meets its contract: the chains that it has built are those that the passes and the look ask for.
use native.Mathlib.Omega.{arith}
use Rattle.columns.specs.Chains.{Twins}
use Rattle.twins.specs.Clear.{unvalued}
use Rattle.columns.proofs.Twins.{twins_of}
use Rattle.document.proofs.Clears.{clear-all}
use Rattle.document.proofs.clash.first_clash.Goals as goal
use Rattle.document.proofs.clash.first_clash.Goals.{After-twin-2-1}

-- the chain of the items
twins : (c : After-twin-2-1) → let x = c.args.records in Twins (unvalued x) c.chain-items.result.lower
twins c =
    let x = c.args.records in
    twins_of x.kind.now x.name.now x.parent.now x.begin.now x.end.now x.item.now _ _ _ _ c.requires.1.1.1.1.1.0
    c.buckets-key.ensures c.chain-items.ensures

pub clear_below-clear-requires : goal.clear_below-clear-requires
clear_below-clear-requires c =
    let p = c.requires in
    let l = p.1 in
    (p.0, (l.0, l.1.0, l.1.1.0, l.1.1.1.0, l.1.1.1.1.0), twins (goal.at.clear_below-clear-requires c).After-twin-2-1)

pub returns-then-clear-records : goal.returns-then-clear-records
returns-then-clear-records c = clear-all _ _ c.clear_below-clear.ensures c.if-clear-records.true

pub first_from-requires : goal.first_from-requires
first_from-requires c =
    let p = c.requires in
    let clear = c.clear_below-clear.ensures in
    (p.0, p.1, omega (arith, clear.few), twins (goal.at.first_from-requires c).After-twin-2-1, clear)
