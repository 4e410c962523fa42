-- `picking::pick` meets its contract: of the first entries those that are marked stand in front.
use mathlib.Core.Path.{◌≡◌}
use Prim.Native.Nat.{◌+◌}
use native.Mathlib.Omega.{arith}
use borrow.Author.Rules.{rules}
use lib.ListN.{length, set}
use Rattle.marks.specs.Marks.{marked}
use Rattle.passes.specs.Passes.{at}
use Rattle.picking.specs.Picked.{Picked}
use Rattle.picking.proofs.Parts.{picked_none, picked_next, picked_most}
use Rattle.picking.proofs.pick.Goals.{After-from-k}
use Rattle.picking.proofs.pick.Goals as goal

pub loop-r-init : goal.loop-r-init
loop-r-init c = picked_none _ _ _

pub offset_bounds-out-k : goal.offset_bounds-out-k
offset_bounds-out-k c = omega (arith, picked_most _ _ c.loop-r.invariant)

pub bounds-out-k : goal.bounds-out-k
bounds-out-k c = omega (arith, picked_most _ _ c.loop-r.invariant, c.requires.1)

-- one entry more
next : (c : After-from-k) → Picked (marked c.args.marks.now) c.args.order.now (c.loop-r.r-index + 1) (set c.loop-r.out c.loop-r.k (at c.args.order.now c.loop-r.r-index)) (c.loop-r.k + c.from-k.result)
next c = picked_next _ _ _ _ _ _ c.loop-r.invariant (omega (arith, picked_most _ _ c.loop-r.invariant, c.requires.1)) (rw c.index.ensures at c.from-k.ensures)

pub overflow_add-k : goal.overflow_add-k
overflow_add-k c = omega (arith, picked_most _ _ (next (goal.at.overflow_add-k c).After-from-k))

pub loop-r-preserved : goal.loop-r-preserved
loop-r-preserved c = next (goal.at.loop-r-preserved c).After-from-k

pub returns : goal.returns
returns c =
    let s = c.loop-r in
    let all : s.r-index ≡ length c.args.order.now = omega arith in
    (search rules, omega (arith, picked_most _ _ s.invariant, c.requires.1), rw all at s.invariant)
