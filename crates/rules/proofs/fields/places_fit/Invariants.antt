-- `rules::fields::places_fit` meets its contract. The invariant: some place from k on is wrong exactly where some place is.
use mathlib.Core.Path.{◌≡◌}
use Prim.Native.Nat.{◌-◌}
use Rattle.meaning.specs.Walk.{any}
use Rattle.rules.proofs.Rows.{wrong}
use Rattle.rules.proofs.fields.places_fit.Given as goal

abbrev pub invariant-loop-k : goal.invariant-loop-k
invariant-loop-k l = any (wrong l.fn.path l.steps) l.k (8 - l.k) ≡ any (wrong l.fn.path l.steps) 0 8
