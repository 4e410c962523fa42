-- `steps::stacks::leap_from` meets its contract: the leap leads to b, or by two leaps on from b.
use mathlib.Core.Path.{refl, ap, ◌∙◌}
use mathlib.Core.Logic.{inl, inr}
use native.Mathlib.Omega.{arith}
use Rattle.steps.specs.Stacks.{hop}
use Rattle.steps.proofs.Stacking.{hop-low}
use Rattle.steps.proofs.stacks.leap_from.Goals as goal

pub hop-c-requires : goal.hop-c-requires
hop-c-requires c =
    let p = c.requires in
    omega (arith, hop-low _ _ _ p.2 p.1, c.hop-first.ensures)

pub returns-then-a-c : goal.returns-then-a-c
returns-then-a-c c = inl refl

pub hop-requires : goal.hop-requires
hop-requires c =
    let p = c.requires in
    omega (arith, hop-low _ _ _ p.2 p.1, c.hop-first.ensures, p.2.room)

pub returns : goal.returns
returns c =
    inr (c.hop.ensures ∙ ap (hop _) c.hop-first.ensures)
