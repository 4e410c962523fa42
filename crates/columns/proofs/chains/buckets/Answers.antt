-- `columns::chains::buckets` meets its contract: below i each number has its key.
use mathlib.Core.Path.{refl}
use native.Mathlib.Omega.{arith}
use lib.ListN.{length-set}
use Rattle.columns.proofs.Linking.{keys_none, keys-store, keys-grouped}
use Rattle.columns.proofs.chains.buckets.Goals as goal

pub loop-i-init : goal.loop-i-init
loop-i-init c = (refl, keys_none _ _ _)

pub loop-i-preserved : goal.loop-i-preserved
loop-i-preserved c = let s = c.loop-i.invariant in (simp length-set s.0, keys-store _ _ _ _ s.1 s.0 (omega arith) _ refl)

pub returns : goal.returns
returns c = let s = c.loop-i.invariant in keys-grouped _ _ _ _ s.1 s.0 (omega arith) (omega arith)
