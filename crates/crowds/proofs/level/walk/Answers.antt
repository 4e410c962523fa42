-- `crowds::level::walk` meets its contract: the next begin joins if it comes before the next end, which leaves otherwise.
use mathlib.Core.Path.{refl, ap}
use Prim.Native.Nat.{◌≤◌, ◌<◌}
use native.Mathlib.Omega.{arith}
use borrow.Author.Rules.{rules}
use lib.ListN.{length}
use Rattle.crowds.specs.Crowds.{at}
use Rattle.crowds.specs.Tallies.{by}
use Rattle.crowds.proofs.Ends.{room-kept}
use Rattle.crowds.proofs.Leveling.{level-none, level-joins, level-joined, level-leaves, level-left, level-end}
use Rattle.crowds.proofs.level.walk.Goals as goal
use Rattle.crowds.proofs.level.walk.Goals.{Else-comes_first, Then-comes_first}

-- the next begin comes before it, or not
sooner : (c : Then-comes_first) →
    let a = c.args in
    (c.loop-j.i < length a.opens.now) × (by a.opens.now a.spans.lo.now c.loop-j.i < by a.closes.now a.spans.hi.now c.loop-j.j)
sooner c = let f = c.comes_first.ensures.before c.if-comes_first.true in (f.0, omega (arith, f.1, ap (at c.args.spans.hi.now) c.index.ensures))

later : (c : Else-comes_first) →
    let a = c.args in
    c.loop-j.i < length a.opens.now → by a.closes.now a.spans.hi.now c.loop-j.j ≤ by a.opens.now a.spans.lo.now c.loop-j.i
later c l = let f = c.comes_first.ensures.after c.if-comes_first.false l in omega (arith, ap (at c.args.spans.hi.now) c.index.ensures)

pub loop-j-init : goal.loop-j-init
loop-j-init c = λ o c'. let p = c.requires in (0, level-none _ _ _ _ _ _ _ o c' p.6 _ _ _ p.7 p.8)

pub comes_first-requires : goal.comes_first-requires
comes_first-requires c = let p = c.requires in λ j h. omega (arith, p.0.covered j h, p.2.in_lo)

pub join-requires : goal.join-requires
join-requires c =
    let p = c.requires in
    let s = c.loop-j.invariant p.0 p.1 in
    let f = sooner (goal.at.join-requires c).Then-comes_first in
    (room-kept p.2 (search rules), omega (arith, p.3), p.5, level-joins _ _ _ _ _ _ _ p.0 p.1 _ _ s.0 _ _ _ s.1 f.0 (search rules) _ refl f.1)

pub loop-j-smaller-then-comes_first : goal.loop-j-smaller-then-comes_first
loop-j-smaller-then-comes_first c = omega (arith, (sooner (goal.at.loop-j-smaller-then-comes_first c).Then-comes_first).0)

pub loop-j-preserved-then-comes_first : goal.loop-j-preserved-then-comes_first
loop-j-preserved-then-comes_first c =
    let f = sooner (goal.at.loop-j-preserved-then-comes_first c).Then-comes_first in
    λ o c'.
    let s = c.loop-j.invariant o c' in
    (_, level-joined _ _ _ _ _ _ _ o c' _ _ s.0 _ _ _ s.1 f.0 (search rules) _ refl f.1 _ _ c.join.ensures)

pub leave-requires : goal.leave-requires
leave-requires c =
    let p = c.requires in
    let s = c.loop-j.invariant p.0 p.1 in
    (room-kept p.2 (search rules), omega (arith, p.3), omega (arith, p.4), level-leaves _ _ _ _ _ _ _ p.0 p.1 _ _ s.0 _ _ _ s.1 (search rules) _ refl (later (goal.at.leave-requires c).Else-comes_first))

pub loop-j-preserved : goal.loop-j-preserved
loop-j-preserved c =
    λ o c'.
    let s = c.loop-j.invariant o c' in
    (_, level-left _ _ _ _ _ _ _ o c' _ _ s.0 _ _ _ s.1 (search rules) _ refl (later (goal.at.loop-j-preserved c).Else-comes_first) _ _ c.leave.ensures)

pub returns : goal.returns
returns c =
    let p = c.requires in
    let s = c.loop-j.invariant p.0 p.1 in
    level-end _ _ _ _ _ _ _ p.0 p.1 _ _ s.0 _ _ _ s.1
