-- `columns::chains::chain` meets its contract: the pass has chained the records below i, and each turn skips or adds record i.
use mathlib.Core.Path.{◌≡◌, refl}
use native.Mathlib.Omega.{arith}
use lib.ListN.{length}
use Rattle.columns.proofs.Linking.{chained_none, chained_skip, chained_store}
use Rattle.columns.proofs.chains.chain.Goals as goal
use Rattle.columns.proofs.chains.chain.Goals.{then-kind-i+then-k-lt-LIMIT, else-kind-i, else-kind-i-via-then-kind-i+else-k-lt-LIMIT, else-kind-i-via-else-kind-i}

pub loop-i-init : goal.loop-i-init
loop-i-init c = chained_none _ _ _ _ _ _ refl refl refl

pub loop-i-preserved : goal.loop-i-preserved
loop-i-preserved c =
    let s = c.loop-i.invariant in
    let k = c.index-k.ensures in
    elim c.if-kind-i.branch [
      | then-kind-i+then-k-lt-LIMIT w ↦
          rw (w.last-is, w.lower-is) (chained_store _ _ _ _ _ _ _ s (omega arith) _ k w.if-kind-i.true w.if-k-lt-LIMIT.true)
      | else-kind-i w ↦
          rw (w.last-is, w.lower-is) (chained_skip _ _ _ _ _ _ _ s (omega arith) _ k
          (elim w.else-kind-i.branch [
            | else-kind-i-via-then-kind-i+else-k-lt-LIMIT v ↦ λ _ h. omega (arith, v.if-k-lt-LIMIT.false)
            | else-kind-i-via-else-kind-i v ↦ λ e. absurd (v.if-kind-i.false e)
          ]))
    ]

pub returns : goal.returns
returns c =
    let s = c.loop-i in
    let e : s.i ≡ length c.args.kind.now = omega arith in
    rw e at s.invariant
