-- `rules::references::read_references` meets its contract. The invariant: the references from k on give the answer on them all.
use mathlib.Core.Path.{◌≡◌}
use Prim.Native.Nat.{◌-◌}
use Rattle.meaning.specs.Order.{earliest}
use Rattle.rules.proofs.Answers.{refers}
use Rattle.rules.proofs.references.read_references.Given as goal

abbrev pub invariant-loop-k : goal.invariant-loop-k
invariant-loop-k l = (earliest (refers l.kind l.referred l.n) l.k (l.n - l.k) ≡ earliest (refers l.kind l.referred l.n) 0 l.n)
