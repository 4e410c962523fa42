-- `steps::places::end_at` meets its contract, at a place and at none.
use Prim.Native.Nat.{◌-◌}
use native.Mathlib.Omega.{arith}
use Rattle.steps.proofs.Placing.{end_none, end-some}
use Rattle.steps.proofs.places.end_at.Goals as goal

pub returns-then-place-eq0 : goal.returns-then-place-eq0
returns-then-place-eq0 c = end_none _ _ _ c.if-place-eq0.true

pub offset_bounds-end-p : goal.offset_bounds-end-p
offset_bounds-end-p c =
    omega (arith, c.index-p.ensures, c.requires.1.here (c.index.result - 1) (omega arith))

pub bounds-end-p : goal.bounds-end-p
bounds-end-p c =
    omega (arith, c.index-p.ensures, c.requires.1.here (c.index.result - 1) (omega arith))

pub returns : goal.returns
returns c =
    end-some _ _ _ _ _ c.if-place-eq0.false c.index.ensures c.index-p.ensures
