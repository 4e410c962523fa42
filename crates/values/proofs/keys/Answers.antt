-- `values::keys` meets its contract: below i each value has its key.
use native.Mathlib.Omega.{arith}
use borrow.Author.Rules.{rules}
use lib.Signed.{mag}
use lib.ListN.{length-set, length-map}
use Rattle.columns.proofs.Linking.{keys-store, keys-grouped}
use Rattle.values.proofs.Keying.{key-at}
use Rattle.values.proofs.keys.Goals as goal

pub loop-i-preserved : goal.loop-i-preserved
loop-i-preserved c =
    let s = c.loop-i.invariant in
    (simp length-set s.0, keys-store _ _ _ _ s.1 s.0 (omega arith) _ (key-at c.args.value.now _ _ _ (search rules) c.magnitude.ensures))

pub returns : goal.returns
returns c =
    let s = c.loop-i.invariant in
    let n = length-map c.args.value.now mag in
    keys-grouped _ _ _ _ s.1 s.0 (omega arith) (omega arith)
