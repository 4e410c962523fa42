-- `groups::group` meets its contract: the chains that it has built are those that the pass asks for.
use mathlib.Core.List.{[]}
use native.Mathlib.Omega.{arith}
use Rattle.columns.proofs.Twins.{twins_of}
use Rattle.groups.proofs.Classing.{nested_of, grouped}
use Rattle.groups.proofs.group.Goals as goal

pub classes-requires : goal.classes-requires
classes-requires c =
    let a = c.args.records in
    let p = c.requires in
    let n = nested_of _ _ _ _ p.1 p.2 in
    record { nested = n; twins = twins_of a.kind.now [] a.parent.now [] [] a.item.now _ _ _ _ n.item c.buckets-key.ensures c.chain-items.ensures }

pub returns : goal.returns
returns c =
    let p = c.requires in
    let r = c.classes.ensures in
    λ doc n. grouped doc _ _ _ n _ (omega (arith, r.0, (nested_of _ _ _ _ p.1 p.2).few)) r.1
