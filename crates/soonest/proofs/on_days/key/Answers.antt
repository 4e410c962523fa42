-- `soonest::on_days::key` meets its contract: the sooner of two places serves for both.
use Prim.Native.Nat.{◌≤◌}
use native.Mathlib.Omega.{arith}
use Rattle.parts.proofs.Earlier.{few-earlier, twice_earlier, shared_earlier}
use borrow.Author.Rules.{rules}
use Rattle.soonest.proofs.on_days.key.Goals as goal

pub unique-requires : goal.unique-requires
unique-requires c = let p = c.requires in (p.0, p.2, p.3, p.4, search (rules, p.6), search (rules, p.7), search (rules, p.8))

pub returns : goal.returns
returns c =
    let early : c.min.result ≤ c.lacking-none.result = omega (arith, c.min.ensures) in
    let early' : c.min.result ≤ c.unique.result = omega (arith, c.min.ensures) in
    let u = c.unique.ensures in (
      few-earlier _ _ _ _ early _ _ _ _ c.lacking-none.ensures,
      twice_earlier _ _ _ _ early' _ u.0,
      shared_earlier _ _ _ _ early' _ _ _ u.1,
    )
