-- `nodes::fill::fill` meets its contract: after b blocks the column holds the entries of their records, and the rest as it was.
use Prim.Native.Nat.{◌+◌, ◌*◌, ◌/◌, ◌%◌}
use native.Mathlib.Omega.{arith}
use borrow.Author.Rules.{rules}
use Rattle.nodes.proofs.Fills.{filled_none, filled-as}
use Rattle.nodes.proofs.fill.fill.Goals as goal

pub loop-b-init : goal.loop-b-init
loop-b-init g c = filled_none _ _

pub loop-b-preserved : goal.loop-b-preserved
loop-b-preserved g c =
    let l = c.loop-b in
    filled-as _ (25 * l.b + 25) (25 * (l.b + 1)) _ _ (omega arith) (omega arith) (c.fill_block.ensures _ l.invariant)

pub returns : goal.returns
returns g c =
    let l = c.loop-b in
    let n = c.args.n in
    filled-as _ (25 * (n / 25) + n % 25) n _ _ (omega arith) (omega arith)
    (c.fill_block-2.ensures _ (filled-as _ (25 * l.b) (25 * (n / 25)) _ l.out (search rules) (search rules) l.invariant))
