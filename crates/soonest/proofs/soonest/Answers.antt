-- `soonest::soonest` meets its contract: the rule is a datatype in windows, or it is none.
use Prim.Native.Nat.{◌≤◌}
use native.Mathlib.Omega.{arith}
use Rattle.soonest.proofs.Lining.{stepped, unstepped}
use Rattle.soonest.proofs.Spoiling.{unspoilt_sooner, nilled}
use Rattle.soonest.proofs.soonest.Goals as goal

pub stepping-requires : goal.stepping-requires
stepping-requires c =
    let p = c.requires in
    let w = stepped c.args.rule.windowed c.args.rule.kind c.if-rule.true in
    (p.0, p.1, w.0, w.1, (p.2.0, p.2.1, _, p.2.2))

pub returns-then-rule : goal.returns-then-rule
returns-then-rule c = λ doc q g. c.stepping.ensures doc q _ g

pub sweeping-swept-requires : goal.sweeping-swept-requires
sweeping-swept-requires c = let p = c.requires in (p.0, p.1, (p.2.0, p.2.1, _, _, p.2.2))

pub soonest_nil-requires : goal.soonest_nil-requires
soonest_nil-requires c = let p = c.requires in (p.0, (p.2.0, nilled p.2.2))

pub returns : goal.returns
returns c =
    let z = c.args.rule in
    let sooner : c.min.result ≤ c.sweeping-swept.result = omega (arith, c.min.ensures) in
    let sooner' : c.min.result ≤ c.soonest_nil.result = omega (arith, c.min.ensures) in
    λ doc q g.
    c.sweeping-swept.ensures doc q _ _ g (unstepped z.windowed z.kind c.if-rule.false) _ sooner
    (unspoilt_sooner doc _ _ _ _ sooner' (c.soonest_nil.ensures doc (nilled g)))
