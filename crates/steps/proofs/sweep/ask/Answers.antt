-- `steps::sweep::ask` meets its contract: below f each record has the answer of its search.
use mathlib.Core.Path.{refl}
use native.Mathlib.Omega.{arith}
use Prim.Native.Nat.{◌<◌}
use lib.IntN.{pos}
use lib.Signed.{mag}
use lib.ListN.{get_or, length-set}
use mir.Syntax.{w32}
use mir.Facts.{to_z-of_z}
use Rattle.numbers.proofs.Signs.{given}
use Rattle.prepare.proofs.Filling.{filled_none, filled-store}
use Rattle.steps.proofs.Levelling.{ask_is, filled-asked}
use Rattle.steps.proofs.sweep.ask.Goals as goal

pub loop-f-init : goal.loop-f-init
loop-f-init c = (refl, filled_none _ _)

pub latest_below-requires : goal.latest_below-requires
latest_below-requires c =
    let p = c.requires in
    (p.3.0, p.3.4 c.loop-f.f (omega arith), p.3.1, p.3.2, p.3.3)

pub bounds-out-f : goal.bounds-out-f
bounds-out-f c = let p = c.requires in omega (arith, p.0)

pub loop-f-preserved : goal.loop-f-preserved
loop-f-preserved c =
    let p = c.requires in
    let g : mag (get_or c.args.value.now c.loop-f.f (pos 0)) < 2147483648 = omega arith in (
      simp length-set c.loop-f.invariant.0,
      filled-store _ c.loop-f.invariant.1 (omega (arith, p.0)) _
          (ask_is _ _ _ _ _ _ _ _ _ _ _ _ _ (given w32 g) g c.bound_of-bound.ensures c.latest_below.ensures.0 c.latest_below.ensures.1),
    )

pub returns : goal.returns
returns c =
    filled-asked _ _ _ _ _ _ _ _ _ _ _ _ _ (to_z-of_z c.ranges.low) (to_z-of_z c.ranges.high) c.loop-f.invariant.1 (omega arith)
