-- `steps::stacks::latest_below` meets its contract: the way down has passed over none that is below the bound.
use Prim.Native.Nat.{◌-◌, ◌≤◌}
use native.Mathlib.Omega.{arith}
use borrow.Author.Rules.{rules}
use Rattle.steps.proofs.Stacking.{down_start, down_end, down_hit, down_next, onward-low}
use Rattle.steps.proofs.stacks.latest_below.Goals as goal

pub loop-at-init : goal.loop-at-init
loop-at-init c = (omega arith, λ member n h k p. down_start member _ _ _ p)

pub returns-then-level-j : goal.returns-then-level-j
returns-then-level-j c =
    (search rules, λ member n h k p. down_hit _ _ _ _ _ (c.loop-at.invariant.1 member n h k p) _ c.index-j.ensures c.if-level-j.true)

pub onward-at-requires : goal.onward-at-requires
onward-at-requires c =
    let p = c.requires in
    omega (arith, p.4.low (c.index-j.result - 1) (search rules))

pub loop-at-smaller : goal.loop-at-smaller
loop-at-smaller c =
    let p = c.requires in
    omega (arith, onward-low _ _ _ _ (c.index-j.result - 1) _ (p.3.low (c.index-j.result - 1) (omega arith)) (p.4.low (c.index-j.result - 1) (omega arith)) c.onward-at.ensures)

pub loop-at-preserved : goal.loop-at-preserved
loop-at-preserved c =
    let p = c.requires in
    let low : c.onward-at.result ≤ c.index-j.result - 1 = onward-low _ _ _ _ (c.index-j.result - 1) _ (p.3.low (c.index-j.result - 1) (omega arith)) (p.4.low (c.index-j.result - 1) (omega arith)) c.onward-at.ensures in (
      omega arith,
      λ member n h k q. down_next member _ _ _ _ _ _ n _ _ (c.loop-at.invariant.1 member n h k q) h k c.loop-at-test.true c.index-j.ensures c.if-level-j.false c.onward-at.ensures,
    )

pub returns : goal.returns
returns c = (search rules, λ member n h k p. down_end _ _ _ _ _ (c.loop-at.invariant.1 member n h k p) c.loop-at-test.false)
