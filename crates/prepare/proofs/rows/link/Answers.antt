-- `prepare::rows::link` meets its contract: the chains by the keys are the rows.
use native.Mathlib.Omega.{arith}
use Rattle.prepare.proofs.Keying.{linked}
use Rattle.prepare.proofs.rows.link.Goals as goal

pub returns : goal.returns
returns c =
    let g = c.requires.2 in
    λ doc v m h. linked doc _ _ _ _ _ v.kind (omega (arith, g.1.kind.size, g.2.few)) (c.keys-key.ensures doc v.vkind v.value m h) c.chain.ensures
