-- `distinct::classes::pair_of` meets its contract: the value was last seen at a record of the key, or x is the first of its class.
use Prim.Native.Nat.{◌<◌}
use native.Mathlib.Omega.{arith}
use Rattle.distinct.proofs.Classing.{classed_seen, classed_new}
use Rattle.distinct.proofs.classes.pair_of.Goals as goal
use Rattle.distinct.proofs.classes.pair_of.Goals.{After-index-r, then-y-v+else-v-y, else-y-v}

-- the value is below n
v-fits : (c : After-index-r) → c.index-r.result < c.args.v.n
v-fits c = let p = c.requires in omega (arith, c.index-r.ensures, p.0.low c.args.x p.2)

pub returns-then-v-y : goal.returns-then-v-y
returns-then-v-y c =
    classed_seen _ _ _ _ _ _ c.index-r.ensures _ c.index-y.ensures (omega arith) c.if-v-y.true

pub returns : goal.returns
returns c =
    classed_new _ _ _ _ _ _ c.index-r.ensures _ c.index-y.ensures (λ h. elim c.if-y-v.branch [ then-y-v+else-v-y w ↦ w.if-v-y.false | else-y-v w ↦ absurd (omega arith) ]) (omega arith) (omega (arith, v-fits (goal.at.returns c).After-index-r))
