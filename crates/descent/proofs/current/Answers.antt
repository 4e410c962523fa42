-- `descent::current` meets its contract: what is left is to find the current version below `past`.
use native.Mathlib.Omega.{arith}
use Rattle.descent.proofs.Seeking.{sought_start, sought_end, sought_hit, sought_next, sought_less}
use Rattle.descent.proofs.current.Goals as goal

pub loop-past-init : goal.loop-past-init
loop-past-init c =
    let p = c.requires in
    let s = sought_start p.1.1 0 _ p.0 _ c.index-past.ensures in
    (omega (arith, s.low, p.1.1.periods.begin.size), λ doc l. sought_start l _ _ p.0 _ c.index-past.ensures)

pub returns-then-lasts : goal.returns-then-lasts
returns-then-lasts c =
    λ doc l. sought_hit l _ _ c.requires.0 _ (c.loop-past.invariant.1 doc l) (omega arith) _ c.lasts.ensures c.if-lasts.true

pub loop-past-smaller : goal.loop-past-smaller
loop-past-smaller c =
    let p = c.requires in
    sought_less p.1.1 _ _ p.0 _ (c.loop-past.invariant.1 _ p.1.1) (omega arith) _ c.index-past-in-loop-past.ensures

pub loop-past-preserved : goal.loop-past-preserved
loop-past-preserved c =
    let p = c.requires in
    let less = sought_less p.1.1 _ _ p.0 _ (c.loop-past.invariant.1 _ p.1.1) (omega arith) _ c.index-past-in-loop-past.ensures in (
      omega (arith, less),
      λ doc l. sought_next l _ _ p.0 _ (c.loop-past.invariant.1 doc l) (omega arith) _ c.lasts.ensures c.if-lasts.false _ c.index-past-in-loop-past.ensures,
    )

pub returns : goal.returns
returns c =
    let p = c.requires in
    λ doc l. sought_end l _ _ p.0 _ (c.loop-past.invariant.1 doc l) c.loop-past-test.false
