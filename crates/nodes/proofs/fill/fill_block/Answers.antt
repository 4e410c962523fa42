-- `nodes::fill::fill_block` meets its contract: after k records the column has grown by k entries.
use mathlib.Core.Path.{ap, ◌∙◌}
use Prim.Native.Nat.{◌*◌}
use native.Mathlib.Omega.{arith}
use borrow.Author.Rules.{rules}
use Rattle.nodes.proofs.Fills.{placed, grows_none, grows_more, grows_all}
use Rattle.nodes.proofs.fill.fill_block.Goals as goal

pub loop-k-init : goal.loop-k-init
loop-k-init g c = grows_none _ _ _

pub read-requires : goal.read-requires
read-requires g c =
    let p = placed c.args.b c.loop-k.k c.record_from-part.ensures (search rules) in
    omega (arith, p.size, c.requires.1.in_record)

pub loop-k-preserved : goal.loop-k-preserved
loop-k-preserved g c =
    let l = c.loop-k in
    let a = c.args in
    let p = placed a.b l.k c.record_from-part.ensures (search rules) in
    grows_more _ (25 * a.b) l.k a.out.now l.out _ (search rules) l.invariant (c.read.ensures ∙ ap (λ s. g.T.Field.spelled s a.offset) p.bytes)

pub returns : goal.returns
returns g c =
    let l = c.loop-k in
    grows_all _ _ l.k _ _ l.out (search rules) (search rules) l.invariant
