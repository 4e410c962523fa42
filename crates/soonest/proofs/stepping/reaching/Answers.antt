-- `soonest::stepping::reaching` meets its contract: the places of the reaches are laid out along the order.
use mir.Syntax.{w32}
use native.Mathlib.Omega.{arith}
use Rattle.numbers.proofs.Signs.{given}
use Rattle.soonest.proofs.Lining.{reaching_of, covers_limit, covers_room}
use borrow.Author.Rules.{rules}
use Rattle.soonest.proofs.stepping.reaching.Goals as goal

pub earlier_days-requires : goal.earlier_days-requires
earlier_days-requires c =
    let d = c.requires.4 in
    let few = d.2.few in
    let b = d.1.periods.begin.size in
    let e = d.1.periods.end.size in
    (search (rules, few, b), omega (arith, b, e), search (rules, few, b))

pub lay_high-requires : goal.lay_high-requires
lay_high-requires c =
    let p = c.requires in
    let d = p.4 in
    (p.0, p.1, covers_limit _ _ _ p.2 d.0 d.1.periods d.2 (search rules), covers_room _ _ _ p.2 p.3)

pub returns : goal.returns
returns c =
    let p = c.requires in
    let z = c.args.rule in
    λ doc k j w.
    let b = k.periods.begin.size in
    reaching_of doc _ _ _ _ _ _ _ _ (c.reaches_swept-reach.ensures doc _ k j w (given w32 {z = z.low} (search rules)) (given w32 {z = z.high} (search rules))) k.periods p.2
    c.earlier_days.ensures (omega (arith, c.lay_high.ensures.0, p.3, b)) c.lay_high.ensures.1
