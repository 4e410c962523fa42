-- `selectors::sieve::key_of` meets its contract. The loop's invariant: the key made so far and the bytes left make the name's key.
use native.Mathlib.Nat.{mod-lt}
use native.Mathlib.Omega.{arith}
use borrow.Author.Rules.{rules}
use Rattle.selectors.specs.Sieve.{key_of}
use Rattle.selectors.proofs.Sieves.{key_step, key-end}
use Rattle.selectors.proofs.sieve.key_of.Goals as goal

pub loop-x-init : goal.loop-x-init
unfolding key_of
loop-x-init c = search rules

pub loop-x-preserved : goal.loop-x-preserved
loop-x-preserved c =
    let s = c.loop-x in
    (mod-lt _ (omega arith), rw c.from.ensures (key_step _ _ _ _ s.invariant.1 c.loop-x-test.true))

pub returns : goal.returns
returns c = key-end _ _ _ _ c.loop-x.invariant.1 c.loop-x-test.false
