-- `rules::read_records` meets its contract. The invariant: the records from k on give the answer on them all, and of those below k the columns hold what they say.
use mathlib.Core.Path.{◌≡◌}
use Prim.Native.Nat.{◌-◌}
use lib.ListN.{length}
use Rattle.meaning.specs.Order.{earliest}
use Rattle.meaning.specs.Rules.{rules_of}
use Rattle.rules.specs.Table.{Kept}
use Rattle.rules.proofs.Answers.{tells}
use Rattle.rules.proofs.read_records.Given as goal

abbrev pub invariant-loop-k : goal.invariant-loop-k
invariant-loop-k l = (length l.kind ≡ length l.initial.kind) × (length l.referred ≡ length l.initial.referred) × (earliest (tells l.image) l.k (l.n - l.k) ≡ earliest (tells l.image) 0 l.n) × Kept (rules_of l.image) l.k l.kind l.referred
