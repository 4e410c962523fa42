-- `changes::merging::list_changes` meets its contract: what is left to store from the k-th entry on completes the list.
use native.Mathlib.Omega.{arith}
use Rattle.changes.proofs.Tallied.{filled-start, filled_more, filled-end}
use Rattle.changes.proofs.merging.list_changes.Goals as goal

pub loop-k-init : goal.loop-k-init
loop-k-init c =
    let p = c.requires in
    (p.1, p.2, λ doc q r m e n. filled-start doc q r _ _ _ _ e p.1 _ (omega (arith, n, p.2)))

pub loop-k-preserved : goal.loop-k-preserved
loop-k-preserved c =
    let s = c.loop-k in (
      s.invariant.0,
      s.invariant.1,
      λ doc q r m e n.
          filled_more doc q r _ _ _ _ e s.invariant.0 _ (omega (arith, n)) (s.invariant.2 doc q r m e n) (omega (arith, n)) (c.next_change-at.ensures.next doc q r m),
    )

pub returns : goal.returns
returns c =
    let s = c.loop-k in
    λ doc q r m e n. filled-end doc q r _ _ _ _ e s.invariant.0 _ (omega (arith, n)) (s.invariant.2 doc q r m e n) (omega (arith, n))
