-- `soonest::on_days::reference` meets its contract: the sooner of two places serves for both.
use Prim.Native.Nat.{◌≤◌}
use native.Mathlib.Omega.{arith}
use Rattle.parts.proofs.Earlier.{twice_earlier, unmatched_earlier}
use borrow.Author.Rules.{rules}
use Rattle.soonest.proofs.on_days.reference.Goals as goal

pub unmatched-requires : goal.unmatched-requires
unmatched-requires c = let p = c.requires in (p.0, p.1, p.2, p.3, p.5, p.6, search (rules, p.7), search (rules, p.8))

pub returns : goal.returns
returns c =
    let early : c.min.result ≤ c.twice-two.result = omega (arith, c.min.ensures) in
    let early' : c.min.result ≤ c.unmatched.result = omega (arith, c.min.ensures) in
    (twice_earlier _ _ _ _ early _ c.twice-two.ensures, unmatched_earlier _ _ _ _ early' _ _ _ c.unmatched.ensures)
