-- `soonest::sweeps::swept_in` meets its contract: the mode is that of the rule.
use mathlib.Core.Path.{refl}
use borrow.Author.Tests.{eq-eqb, ne_eqb}
use Rattle.soonest.proofs.Lining.{roomy}
use Rattle.soonest.proofs.sweeps.swept_in.Goals as goal

pub on_days-requires : goal.on_days-requires
on_days-requires g c = let p = c.requires in (roomy p.0.0, (p.1.0, p.1.1, _, p.1.2, p.1.3, p.1.5))

pub returns-then-rule-eq0 : goal.returns-then-rule-eq0
returns-then-rule-eq0 g c =
    λ doc q at s y e k z. c.on_days.ensures doc q _ at s e (eq-eqb _ 0 c.if-rule-eq0.true)

pub in_windows-requires : goal.in_windows-requires
in_windows-requires g c = let p = c.requires in (roomy p.0.0, (p.1.0, p.1.1, _, p.1.2, p.1.3, p.1.4, p.1.5))

pub returns : goal.returns
returns g c =
    let w = ne_eqb _ 0 c.if-rule-eq0.false in
    λ doc q at s y e k z. c.in_windows.ensures doc q _ at s y e w (k w) refl z
