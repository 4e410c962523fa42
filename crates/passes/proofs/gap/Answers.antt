-- `passes::gap` meets its contract: each turn takes a record as a demand, then as a supply.
use native.Mathlib.Omega.{arith}
use borrow.Author.Rules.{rules}
use Rattle.passes.proofs.Clearing.{cleared}
use Rattle.passes.proofs.Gapping.{met_none, met_demand, met_supply, met_end}
use Rattle.passes.proofs.gap.Goals as goal

pub loop-number-init : goal.loop-number-init
loop-number-init c =
    met_none _ _ _ _ _ _ _ _ _ _ (cleared c.args.room c.fill.new.self _ (search rules))

pub loop-number-preserved : goal.loop-number-preserved
loop-number-preserved c =
    let p = c.requires in
    let m = met_demand _ _ _ _ _ _ _ _ _ _ _ c.loop-number.invariant p.rising (omega arith) _ c.index-x.ensures _ _ c.take_demand.ensures in
    met_supply _ _ _ _ _ _ _ _ _ _ _ m p.rising (omega arith) _ c.index-x.ensures _ _ c.take_supply-d.ensures

pub returns : goal.returns
returns c =
    met_end _ _ _ _ _ _ _ _ _ _ _ c.loop-number.invariant (omega arith) _ c.unmet.ensures
