-- `twins::clear_below` meets its contract: items that have no number in common, or are classed and have versions that lie apart, do not clash.
use native.Mathlib.Omega.{arith}
use Rattle.twins.proofs.Clearing.{clear_of, clear-alone, held_of, lists_own}
use borrow.Author.Tests.{not-true}
use Rattle.twins.proofs.clear_below.Goals as goal

pub returns-then-not-named : goal.returns-then-not-named
returns-then-not-named c =
    let x = c.args.records in
    clear-alone _ _ x.parent.now x.begin.now x.end.now _ _ _ c.classes-named.ensures.classed (c.classes-named.ensures.alone (not-true _ c.if-not-named.true))

pub lie_apart-requires : goal.lie_apart-requires
lie_apart-requires c =
    let p = c.requires in
    (held_of _ _ _ _ _ _ _ _ p.0 p.1.1 p.1.2 p.1.3 c.classes-named.ensures.classed, lists_own _ _ c.own_places-own.ensures)

pub returns-then-lie_apart : goal.returns-then-lie_apart
returns-then-lie_apart c = clear_of _ _ _ _ _ _ _ _ _ c.classes-named.ensures.classed (c.lie_apart.ensures c.if-lie_apart.true) (omega arith)

pub returns : goal.returns
returns c = let r = c.apart_below.ensures in clear_of _ _ _ _ _ _ _ _ _ c.classes-named.ensures.classed r.1 r.0
