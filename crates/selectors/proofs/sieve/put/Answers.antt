-- `selectors::sieve::put` meets its contract.
use mathlib.Core.Path.{refl}
use native.Mathlib.Nat.{mod-lt}
use native.Mathlib.Omega.{arith}
use lib.ListN.{length-set}
use Rattle.selectors.specs.Sieve.{with_key}
use Rattle.selectors.proofs.Sieves.{place_inside}
use Rattle.selectors.proofs.sieve.put.Goals as goal

pub bounds-sieve-key : goal.bounds-sieve-key
bounds-sieve-key c = mod-lt _ (omega arith)

pub bounds-sieve-key-2 : goal.bounds-sieve-key-2
bounds-sieve-key-2 c = simp length-set (place_inside _ _ 5 c.requires (omega arith))

pub bounds-sieve-key-3 : goal.bounds-sieve-key-3
bounds-sieve-key-3 c = simp length-set (place_inside _ _ 11 c.requires (omega arith))

pub bounds-sieve-key-4 : goal.bounds-sieve-key-4
bounds-sieve-key-4 c = simp length-set (place_inside _ _ 23 c.requires (omega arith))

pub returns : goal.returns
unfolding with_key
returns c = refl
