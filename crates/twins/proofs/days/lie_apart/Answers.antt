-- `twins::days::lie_apart` meets its contract: the positions below k lie apart.
use mathlib.Core.Path.{refl, ◌∙◌}
use Rattle.twins.proofs.Sweeping.{sweep_none, sweep_next, sweep_end}
use Rattle.twins.proofs.days.lie_apart.Goals as goal

pub loop-k-init : goal.loop-k-init
loop-k-init c = (refl, sweep_none _ _ _ _ _ _ _ _)

pub loop-k-preserved : goal.loop-k-preserved
loop-k-preserved c =
    let s = c.loop-k.invariant in (
      c.follows.auto.reach ∙ s.0,
      sweep_next _ _ _ _ _ _ _ _ _ s.1 _ c.index-v.ensures _ (c.follows.ensures c.if-not-follows.false),
    )

pub returns : goal.returns
returns c = λ _. sweep_end _ _ _ _ _ _ _ _ _ c.loop-k.invariant.1 _ c.requires.1 c.loop-k-test.false
