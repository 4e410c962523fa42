-- `crowds::endings` meets its contract: each turn takes one end off, or passes over it.
use mathlib.Core.Path.{◌≡◌}
use native.Mathlib.Omega.{arith}
use borrow.Author.Rules.{rules}
use lib.ListN.{length}
use Rattle.crowds.proofs.Ends.{ended-none, ended-skip, ended-more}
use Rattle.crowds.proofs.endings.Goals as goal
use Rattle.crowds.proofs.endings.Goals.{then-a-b, else-a-b}

pub loop-j-init : goal.loop-j-init
loop-j-init c = ended-none _ _ _ _ _ _ _ _ (search rules)

pub loop-j-preserved : goal.loop-j-preserved
loop-j-preserved c =
    let s = c.loop-j.invariant in
    elim c.if-a-b.branch [
      | then-a-b w ↦ rw w.tally-is (ended-more _ _ _ _ _ _ _ _ _ _ s (omega arith) _ c.index-y.ensures (omega arith) _ _ c.index-k.ensures w.if-a-b.true (omega (arith, c.requires.1.in_tally)) (omega (arith, w.saturating_sub.ensures), omega (arith, w.saturating_sub.ensures)))
      | else-a-b w ↦ rw w.tally-is (ended-skip _ _ _ _ _ _ _ _ _ _ s (omega arith) _ c.index-y.ensures (omega arith))
    ]

pub returns : goal.returns
returns c =
    let s = c.loop-j in
    let e : s.j ≡ length c.args.closes.now = omega arith in
    rw e at s.invariant
