-- `passes::unmet` meets its contract.
use mathlib.Core.Path.{◌≡◌}
use native.Mathlib.Omega.{arith}
use Rattle.passes.proofs.Gapping.{unmet_none, unmet_more}
use Rattle.passes.proofs.unmet.Goals as goal

pub loop-k-init : goal.loop-k-init
loop-k-init c = unmet_none _ _ _

pub loop-k-preserved : goal.loop-k-preserved
loop-k-preserved c =
    unmet_more _ _ _ _ _ _ c.loop-k.invariant (omega (arith, c.type_inv.need c.loop-k.k)) c.missed-r.ensures

pub returns : goal.returns
returns c =
    let s = c.loop-k in
    let e : s.k ≡ c.args.room = omega arith in
    rw e at s.invariant
