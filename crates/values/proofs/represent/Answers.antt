-- `values::represent` meets its contract: the chains that it has built are those that the pass asks for.
use native.Mathlib.Omega.{arith}
use Rattle.values.proofs.Equals.{even_of, represents}
use Rattle.values.proofs.Keying.{by_value}
use Rattle.values.proofs.represent.Goals as goal

pub represent_chained-requires : goal.represent_chained-requires
represent_chained-requires c =
    let p = c.requires in
    let even = even_of _ _ _ _ p.1 p.2 in
    (even, by_value _ _ _ even _ _ _ _ c.keys-key.ensures c.chain-versions.ensures)

pub returns : goal.returns
returns c =
    let p = c.requires in
    let r = c.represent_chained.ensures in
    λ doc v. represents doc _ _ _ v _ (omega (arith, r.0, (even_of _ _ _ _ p.1 p.2).few)) r.1
