-- `nodes::fill::fill_block` meets its contract: after k records the column has grown by k entries.
use Prim.Native.Nat.{◌*◌}
use Rattle.meaning.specs.Block.{node_form, record_of}
use Rattle.nodes.specs.Filled.{Grows}
use Rattle.nodes.proofs.fill.fill_block.Given as goal

abbrev pub invariant-loop-k : goal.invariant-loop-k
invariant-loop-k g l = Grows (λ i. g.T.Field.spelled (record_of node_form l.image i) l.offset) (25 * l.b) l.k l.initial.out l.out
