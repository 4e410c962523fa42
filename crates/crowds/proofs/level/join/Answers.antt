-- `crowds::level::join` meets its contract: a record is passed over, counted, or counted and kept as the opener.
use native.Mathlib.Omega.{arith}
use Prim.Native.Nat.{◌<◌}
use Rattle.crowds.specs.Levels.{Takes}
use Rattle.crowds.proofs.Turns.{takes_part, joined-none, joined-more, joined-open}
use Rattle.crowds.proofs.level.join.Goals as goal
use Rattle.crowds.proofs.level.join.Goals.{Else-spans-x}

-- it has a key below n, and is present somewhere
takes : (c : Else-spans-x) → (c.index-k.result < c.args.n)
    × Takes c.args.spans.key.now c.args.spans.lo.now c.args.spans.hi.now c.args.met c.index-k.result
takes c = takes_part _ _ _ _ _ _ c.index-x.ensures _ c.index-k.ensures c.if-spans-x.false

pub returns-then-spans-x : goal.returns-then-spans-x
returns-then-spans-x c = joined-none _ _ _ _ _ _ _

pub overflow_add-tally : goal.overflow_add-tally
overflow_add-tally c =
    let t = takes (goal.at.overflow_add-tally c).Else-spans-x in
    let p = c.requires in
    omega (arith, p.3.rises _ t.0 t.1, p.2)

pub overflow_add-index : goal.overflow_add-index
overflow_add-index c =
    let t = takes (goal.at.overflow_add-index c).Else-spans-x in
    let p = c.requires in
    omega (arith, p.3.rises _ t.0 t.1, p.2, c.index.ensures)

pub returns-then-index-least : goal.returns-then-index-least
returns-then-index-least c =
    let p = c.requires in
    let t = takes (goal.at.returns-then-index-least c).Else-spans-x in
    joined-open _ _ _ _ _ _ _ _ (omega (arith, t.0, p.0.in_tally)) t.1 (omega (arith, t.0, p.1))

pub returns-else-index-least : goal.returns-else-index-least
returns-else-index-least c =
    let p = c.requires in
    let t = takes (goal.at.returns-else-index-least c).Else-spans-x in
    joined-more _ _ _ _ _ _ _ _ (omega (arith, t.0, p.0.in_tally)) t.1 _ c.index.ensures c.if-index-least.false
