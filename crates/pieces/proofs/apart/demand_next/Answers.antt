-- `pieces::apart::demand_next` meets its contract.
use native.Mathlib.Omega.{arith}
use Rattle.passes.proofs.Cases.{fits}
use Rattle.pieces.proofs.Turning.{turn_demand, turn_supply, turn_either}
use Rattle.pieces.proofs.apart.demand_next.Goals as goal

pub returns-then-supplies-j : goal.returns-then-supplies-j
returns-then-supplies-j c =
    let p = c.requires in
    turn_demand _ _ _ _ _ _ (p.2 (omega arith))

pub returns-then-demands-i : goal.returns-then-demands-i
returns-then-demands-i c = turn_supply _ _ _ _ _ _ (omega arith) (omega arith)

pub bounds-demands-x : goal.bounds-demands-x
bounds-demands-x c =
    omega (arith, fits c.requires.0 _ (omega arith) c.index-x.ensures)

pub bounds-supplies-y : goal.bounds-supplies-y
bounds-supplies-y c =
    omega (arith, fits c.requires.1 _ (omega arith) c.index-y.ensures)

pub returns : goal.returns
returns c =
    turn_either _ _ _ _ _ _ (omega arith) (omega arith) _ _ c.index-x.ensures c.index-y.ensures
