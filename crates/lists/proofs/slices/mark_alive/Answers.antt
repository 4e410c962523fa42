-- `lists::slices::mark_alive` meets its contract: the records below i are marked where they are alive.
use Prim.Native.Nat.{◌≤◌, ◌<◌}
use native.Mathlib.Omega.{arith}
use borrow.Author.Rules.{rules}
use lib.ListN.{length}
use Rattle.marks.proofs.Bytes.{mark-byte}
use Rattle.lists.proofs.Marking.{mark-next, marks-all, alive-at}
use Rattle.lists.proofs.slices.mark_alive.Goals as goal

pub loop-i-preserved : goal.loop-i-preserved
loop-i-preserved c =
    let s = c.loop-i in
    let room : s.i < length s.marks = search rules in
    λ doc t w. mark-next _ s.i _ s.marks room (alive-at doc _ t w _ s.i (mark-byte _ _ c.from.ensures)) (s.invariant doc t w)

pub returns : goal.returns
returns c =
    let s = c.loop-i in
    let room : length c.args.records.kind.now ≤ length s.marks = search rules in
    λ doc t w. marks-all _ s.i _ _ (omega (arith, t.size)) (omega (arith, t.size)) (s.invariant doc t w)
