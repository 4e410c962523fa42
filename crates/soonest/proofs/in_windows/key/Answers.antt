-- `soonest::in_windows::key` meets its contract: the sooner of two places serves for both.
use Prim.Native.Nat.{◌≤◌}
use native.Mathlib.Omega.{arith}
use Rattle.parts.proofs.Earlier.{few-earlier, shared_earlier}
use Rattle.soonest.proofs.Finding.{numbered-small}
use borrow.Author.Rules.{rules}
use Rattle.soonest.proofs.in_windows.key.Goals as goal

pub lacking-none-requires : goal.lacking-none-requires
lacking-none-requires c =
    let p = c.requires in
    (p.1, p.2, p.3, numbered-small _ _ c.numbered.ensures, p.6.in_two, p.6.in_three, p.6.in_four)

pub class_keys-requires : goal.class_keys-requires
class_keys-requires c =
    let p = c.requires in
    (p.3, p.4, c.numbered.ensures.room)

pub shared-requires : goal.shared-requires
shared-requires c =
    let p = c.requires in
    (p.1, p.3, search (rules, c.numbered.ensures.room), p.5, search (rules, p.6.in_two), search (rules, p.6.in_three), search (rules, p.6.in_four))

pub returns : goal.returns
returns c =
    let early : c.min.result ≤ c.lacking-none.result = omega (arith, c.min.ensures) in
    let early' : c.min.result ≤ c.shared.result = omega (arith, c.min.ensures) in (
      (_, c.numbered.ensures, few-earlier _ _ _ _ early _ _ _ _ c.lacking-none.ensures),
      (_, c.class_keys.ensures, shared_earlier _ _ _ _ early' _ _ _ c.shared.ensures),
    )
