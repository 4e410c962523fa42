-- `changes::merging::next_turn` meets its contract: the next position from i on is the next one from `from` on.
use mathlib.Core.Path.{sym, ◌∙◌}
use native.Mathlib.Omega.{arith}
use Rattle.marks.proofs.After.{after-here, after_next, after-end}
use Rattle.changes.proofs.Merged.{told}
use Rattle.changes.proofs.merging.next_turn.Goals as goal

pub turns_after-requires : goal.turns_after-requires
turns_after-requires c =
    let p = c.requires in
    let h = p.small c.loop-i.i (omega arith) in
    let e = c.index-x.ensures in
    (omega arith, omega (arith, p.own_room), omega (arith, p.referred_room))

pub returns-then-turns_after : goal.returns-then-turns_after
returns-then-turns_after c =
    let s = c.loop-i in
    record { here = sym (after-here _ _ s.i (omega arith) (told _ _ _ _ _ c.turns_after.ensures c.index-x.ensures c.if-turns_after.true)) ∙ s.invariant }

pub loop-i-preserved : goal.loop-i-preserved
loop-i-preserved c =
    let s = c.loop-i in
    sym (after_next _ _ s.i (omega arith) (told _ _ _ _ _ c.turns_after.ensures c.index-x.ensures c.if-turns_after.false)) ∙ s.invariant

pub returns : goal.returns
returns c =
    let s = c.loop-i in
    record { here = sym (after-end _ _ s.i (omega arith)) ∙ s.invariant }
