-- `steps::stacks::stack` meets its contract: below j every place has its step and its leap.
use mathlib.Core.Path.{refl}
use native.Mathlib.Omega.{arith}
use lib.ListN.{length-set}
use Rattle.steps.proofs.Stacking.{growing_none, growing_leads, growing_store, growing_built}
use Rattle.steps.proofs.stacks.stack.Goals as goal

pub loop-j-init : goal.loop-j-init
loop-j-init c = (refl, refl, refl, growing_none _ _ _ _ _)

pub latest_below-b-requires : goal.latest_below-b-requires
latest_below-b-requires c =
    let s = c.loop-j in
    let w = growing_leads _ _ _ _ _ _ s.invariant.3 (omega arith) (omega arith) in
    (s.j, c.earlier.ensures.0, omega arith, w.0, w.1)

pub leap_from-far-requires : goal.leap_from-far-requires
leap_from-far-requires c =
    let s = c.loop-j in
    let w = growing_leads _ _ _ _ _ _ s.invariant.3 (omega arith) (omega arith) in
    (s.j, omega (arith, c.earlier.ensures.0, c.latest_below-b.ensures.0), w.1, omega arith)

pub loop-j-preserved : goal.loop-j-preserved
loop-j-preserved c =
    let s = c.loop-j in
    let few = c.requires.0 in (
      simp length-set s.invariant.0,
      simp length-set s.invariant.1,
      simp length-set s.invariant.2,
      growing_store _ _ _ _ _ _ s.invariant.3 (omega arith) (omega arith) (omega arith) _ _ _ c.earlier.ensures.0 c.earlier.ensures.1 c.latest_below-b.ensures.0 c.latest_below-b.ensures.1 c.leap_from-far.ensures,
    )

pub returns : goal.returns
returns c = growing_built _ _ _ _ _ _ c.loop-j.invariant.3 (omega arith) (omega arith) (omega arith)
