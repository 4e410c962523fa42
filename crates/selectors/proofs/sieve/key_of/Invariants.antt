-- `selectors::sieve::key_of` meets its contract. The loop's invariant: the key made so far and the bytes left make the name's key.
use mathlib.Core.Path.{◌≡◌}
use Prim.Native.Nat.{◌<◌}
use lib.ListN.{drop}
use Rattle.selectors.specs.Sieve.{key_from, key_of}
use Rattle.selectors.proofs.sieve.key_of.Given as goal

abbrev pub invariant-loop-x : goal.invariant-loop-x
invariant-loop-x l = (l.key < 2147483647) × (key_from l.key (drop l.x-index l.name) ≡ key_of l.name)
