-- `literal::offence::offends` meets its contract, for a version that is selected and present, and for any other.
use native.Mathlib.Omega.{arith}
use Rattle.literal.proofs.Judging.{offends-absent, offends-breaks}
use Rattle.literal.proofs.offence.offends.Goals as goal

pub returns-then-not-asked-v : goal.returns-then-not-asked-v
returns-then-not-asked-v c =
    let v = c.requires.1 in
    λ doc p q w m. offends-absent doc p q _ _ _ m w.laid.present _ (omega (arith, w.laid.tree.kind.size)) c.if-not-asked-v.true

pub returns : goal.returns
returns c =
    let v = c.requires.1 in
    λ doc p q w m. offends-breaks doc p q _ _ _ m w.laid.present _ (omega (arith, w.laid.tree.kind.size)) c.if-not-asked-v.false _ (c.breaks.ensures doc p q w)
