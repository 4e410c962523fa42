-- `pieces::apart::gap_apart` meets its contract: each turn takes a demand, or a supply that begins no later than the next demand.
use native.Mathlib.Omega.{arith}
use borrow.Author.Rules.{rules}
use lib.ListN.{length}
use Rattle.passes.proofs.Cases.{fits}
use Rattle.passes.proofs.Clearing.{cleared}
use Rattle.pieces.proofs.Merging.{met_none, met_demand, met_supply, met_end}
use Rattle.pieces.proofs.Turning.{left_over, all_done}
use Rattle.pieces.proofs.apart.gap_apart.Goals as goal

pub loop-i-init : goal.loop-i-init
loop-i-init c = (search rules, search rules, search rules, search rules, met_none _ _ _ _ _ _ _ _ _ (cleared c.args.room c.fill.new.self _ (search rules)))

pub demand_next-requires : goal.demand_next-requires
demand_next-requires c = let p = c.requires in (p.los, p.froms, left_over _ _ _ _ c.loop-i-test.true)

pub take_demand-requires : goal.take_demand-requires
take_demand-requires c =
    let h = c.demand_next.ensures.demand c.if-demand_next.true in
    let p = c.requires in
    (fits p.demands _ h c.index-x.ensures, fits p.dhis _ h c.index-x.ensures, search (rules, p.reaches), search (rules, p.needs))

pub loop-i-smaller-then-demand_next : goal.loop-i-smaller-then-demand_next
loop-i-smaller-then-demand_next c =
    let h = c.demand_next.ensures.demand c.if-demand_next.true in
    omega arith

pub loop-i-preserved-then-demand_next : goal.loop-i-preserved-then-demand_next
loop-i-preserved-then-demand_next c =
    let h = c.demand_next.ensures.demand c.if-demand_next.true in
    let p = c.requires in
    let s = c.loop-i.invariant in
    (omega arith, omega arith, search rules, search rules, met_demand _ _ _ _ _ _ _ _ _ _ s.4 p.rising h _ c.index-x.ensures _ _ c.take_demand.ensures)

pub take_supply-d-requires : goal.take_supply-d-requires
take_supply-d-requires c =
    let h = c.demand_next.ensures.supply c.if-demand_next.false in
    let p = c.requires in
    (fits p.keys _ h c.index-y.ensures, fits p.shis _ h c.index-y.ensures, search (rules, p.reaches), search (rules, p.needs))

pub loop-i-smaller : goal.loop-i-smaller
loop-i-smaller c =
    let h = c.demand_next.ensures.supply c.if-demand_next.false in
    omega arith

pub loop-i-preserved : goal.loop-i-preserved
loop-i-preserved c =
    let h = c.demand_next.ensures.supply c.if-demand_next.false in
    let p = c.requires in
    let s = c.loop-i.invariant in
    let first = c.demand_next.ensures.no_later c.if-demand_next.false in
    (omega arith, omega arith, search rules, s.3, met_supply _ _ _ _ _ _ _ _ _ _ _ _ _ _ s.4 p.rising h _ c.index-y.ensures first _ _ c.take_supply-d.ensures)

pub returns : goal.returns
returns c =
    met_end _ _ _ _ _ _ _ _ _ _ _ _ _ c.loop-i.invariant.4 (all_done _ _ c.loop-i.j (length c.args.supplies.order.now) c.loop-i-test.false) _ c.unmet.ensures
