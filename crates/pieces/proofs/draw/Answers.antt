-- `pieces::draw` meets its contract: each turn ranks a record in its row, and draws its stretch.
use mathlib.Core.Path.{◌≡◌}
use lib.ListN.{length, length-set}
use native.Mathlib.Omega.{arith}
use borrow.Author.Rules.{rules}
use Rattle.passes.proofs.Clearing.{blank}
use Rattle.pieces.proofs.Ranking.{in_n, ranks_none, ranks_skip, ranks_more}
use Rattle.pieces.proofs.Drawing.{drawn_none, drawn_skip, drawn_more}
use Rattle.pieces.proofs.draw.Goals as goal
use Rattle.pieces.proofs.draw.Goals.{then-k-n, else-k-n}

pub loop-number-init : goal.loop-number-init
loop-number-init c =
    let p = c.requires in
    (search rules, search rules, search rules, ranks_none _ _ _ _ _ _ _ (blank _ _ p.0), drawn_none _ _ _ _ _ _ _ _ (blank _ _ p.0))

pub loop-number-preserved : goal.loop-number-preserved
loop-number-preserved c =
    let p = c.requires in
    let s = c.loop-number.invariant in
    let x = in_n p.1 _ (omega arith) c.index-x.ensures in
    elim c.if-k-n.branch [
      | then-k-n w ↦
          let ranks = ranks_more _ _ _ _ _ _ _ _ s.3 _ c.index-x.ensures _ c.index-k.ensures _ _ _ w.rank.ensures in
          let drawn = drawn_more _ _ _ _ _ _ _ _ _ s.4 _ c.index-x.ensures (omega arith) p.1.rising (omega arith) _ c.index-k.ensures (omega arith) _ _ _ ranks _ w.max.ensures (omega arith) (omega arith) in
          rw (w.rows-is, w.drawn-is) (simp length-set s.0, simp length-set s.1, simp length-set s.2, ranks, drawn)
      | else-k-n w ↦
          rw (w.rows-is, w.drawn-is) (
            simp length-set s.0,
            s.1,
            s.2,
            ranks_skip _ _ _ _ _ _ _ _ s.3 _ c.index-x.ensures (omega arith),
            drawn_skip _ _ _ _ _ _ _ _ _ s.4 _ c.index-x.ensures (omega arith) (omega arith) (omega arith),
          )
    ]

pub returns : goal.returns
returns c =
    let s = c.loop-number in
    let e : s.number-index ≡ length c.args.order.now = omega arith in
    rw e at s.invariant.4
