-- `selectors::sieve::holds` meets its contract.
use native.Mathlib.Nat.{mod-lt}
use native.Mathlib.Omega.{arith}
use borrow.Author.Rules.{rules}
use Rattle.selectors.specs.Sieve.{holds}
use Rattle.selectors.proofs.Sieves.{place_inside}
use Rattle.selectors.proofs.sieve.holds.Goals as goal

pub bounds-sieve-key : goal.bounds-sieve-key
bounds-sieve-key c = mod-lt _ (omega arith)

pub bounds-sieve-key-2 : goal.bounds-sieve-key-2
bounds-sieve-key-2 c = place_inside _ _ 5 (omega arith) (omega arith)

pub bounds-sieve-key-3 : goal.bounds-sieve-key-3
bounds-sieve-key-3 c = place_inside _ _ 11 (omega arith) (omega arith)

pub bounds-sieve-key-4 : goal.bounds-sieve-key-4
bounds-sieve-key-4 c = place_inside _ _ 23 (omega arith) (omega arith)

pub returns : goal.returns
unfolding holds
returns c = search rules
