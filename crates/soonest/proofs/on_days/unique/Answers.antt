-- `soonest::on_days::unique` meets its contract: the sooner of two places serves for both.
use Prim.Native.Nat.{◌≤◌}
use native.Mathlib.Omega.{arith}
use Rattle.parts.proofs.Earlier.{twice_earlier, shared_earlier}
use Rattle.soonest.proofs.on_days.unique.Goals as goal

pub returns : goal.returns
returns c =
    let early : c.min.result ≤ c.twice-two.result = omega (arith, c.min.ensures) in
    let early' : c.min.result ≤ c.shared.result = omega (arith, c.min.ensures) in
    (twice_earlier _ _ _ _ early _ c.twice-two.ensures, shared_earlier _ _ _ _ early' _ _ _ c.shared.ensures)
