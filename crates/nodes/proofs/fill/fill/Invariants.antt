-- `nodes::fill::fill` meets its contract: after b blocks the column holds the entries of their records, and the rest as it was.
use mathlib.Core.Path.{◌≡◌}
use Prim.Native.Nat.{◌*◌}
use Rattle.meaning.specs.Block.{node_form, record_of}
use Rattle.nodes.specs.Filled.{filled}
use Rattle.nodes.proofs.fill.fill.Given as goal

abbrev pub invariant-loop-b : goal.invariant-loop-b
invariant-loop-b g l = l.out ≡ filled (λ i. g.T.Field.spelled (record_of node_form l.image i) l.offset) (25 * l.b) l.initial.out
