-- `crowds::level::leave` meets its contract: a record is passed over, taken off, or taken off and told to the opener.
use mathlib.Core.Path.{ap}
use native.Mathlib.Omega.{arith}
use Prim.Native.Nat.{◌<◌}
use Rattle.crowds.specs.Crowds.{at}
use Rattle.crowds.specs.Levels.{Takes}
use Rattle.crowds.proofs.Turns.{takes_part, left-none, left_less, left-told}
use Rattle.crowds.proofs.level.leave.Goals as goal
use Rattle.crowds.proofs.level.leave.Goals.{After-index-then-index-least, Else-h-spans}

-- it has a key below n, and is present somewhere
takes : (c : Else-h-spans) → (c.index-k.result < c.args.n)
    × Takes c.args.spans.key.now c.args.spans.lo.now c.args.spans.hi.now c.args.met c.index-k.result
takes c = takes_part _ _ _ _ _ _ c.index-y.ensures _ c.index-k.ensures c.if-h-spans.false

-- the opener of a key that has come to `least` is one of the n
opener-fits : (c : After-index-then-index-least) → c.index-then-index-least.result < c.args.n
opener-fits c =
    let p = c.requires in
    let t = takes_part _ _ _ _ _ _ c.index-y.ensures _ c.index-k.ensures c.if-h-spans.false in
    omega (arith, c.index-then-index-least.ensures, p.3.opened _ t.0 t.1.key (omega (arith, c.index.ensures, c.if-index-least.true)))

pub returns-then-h-spans : goal.returns-then-h-spans
returns-then-h-spans c = left-none _ _ _ _ _ _ _ _ _ _ c.index-y.ensures _ c.index-k.ensures c.if-h-spans.true

pub returns-then-index-least : goal.returns-then-index-least
returns-then-index-least c =
    let p = c.requires in
    let t = takes (goal.at.returns-then-index-least c).Else-h-spans in
    left-told _ _ _ _ _ _ _ _ _ _ _ (omega (arith, t.0, p.0.in_tally)) t.1 c.saturating_sub.ensures t.0
    _ c.index.ensures c.if-index-least.true _ c.index-then-index-least.ensures (omega (arith, opener-fits (goal.at.returns-then-index-least c).After-index-then-index-least, p.2)) _ (ap (at c.args.spans.hi.now) c.index-y.ensures)

pub returns-else-index-least : goal.returns-else-index-least
returns-else-index-least c =
    let p = c.requires in
    let t = takes (goal.at.returns-else-index-least c).Else-h-spans in
    left_less _ _ _ _ _ _ _ _ _ _ _ (omega (arith, t.0, p.0.in_tally)) t.1 c.saturating_sub.ensures
