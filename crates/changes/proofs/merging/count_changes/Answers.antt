-- `changes::merging::count_changes` meets its contract: what is counted so far and what is left make up the whole.
use native.Mathlib.Omega.{arith}
use borrow.Author.Rules.{rules}
use Rattle.changes.proofs.Tallied.{tally_start, tally_more, tally_end}
use Rattle.changes.proofs.merging.count_changes.Goals as goal

pub loop-at-init : goal.loop-at-init
loop-at-init c = (search rules, search rules, λ doc q r m e. tally_start doc q r _ _ _ _ e (search rules))

pub loop-at-preserved : goal.loop-at-preserved
loop-at-preserved c =
    let s = c.loop-at in
    let l = c.next_change-at.ensures.later c.loop-at-test.true in
    (s.invariant.0, omega arith, λ doc q r m e. tally_more doc q r _ _ _ _ e s.invariant.0 (s.invariant.2 doc q r m e) c.loop-at-test.true (c.next_change-at.ensures.next doc q r m))

pub returns : goal.returns
returns c =
    let s = c.loop-at in
    λ doc q r m e. tally_end doc q r _ _ _ _ e s.invariant.0 (s.invariant.2 doc q r m e) c.loop-at-test.false
