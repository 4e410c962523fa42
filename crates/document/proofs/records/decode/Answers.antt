-- `document::records::decode` meets its contract. Assumes nothing.
use Rattle.std.specs.Prelude.{Ok, Err}
use mathlib.Core.Path.{◌≡◌}
use mathlib.Core.Bool.{Bool, true, false, ◌||◌}
use borrow.Author.Tests.{eq-eqb, ne_eqb}
use Rattle.meaning.specs.declared.Node.{Node}
use Rattle.meaning.specs.Nodes.{item_fields, version_fields, node_fields}
use Rattle.document.specs.Decoding.{decoded}
use Rattle.document.proofs.records.decode.Goals as goal

-- the three ways out
module _ (n : Node) where
  failed-4 : (n.spare ≡ 0 → ⊥) → Err 4 ≡ decoded n
  unfolding decoded
  failed-4 z = rw (ne_eqb n.spare 0 z)

  module _ (z : n.spare ≡ 0) (a b : Bool) (p : a ≡ item_fields n) (q : b ≡ version_fields n) where
    fits : node_fields n ≡ (a || b)
    unfolding node_fields
    fits = rw (p, q)

    passed : a || b ≡ true → Ok n ≡ decoded n
    unfolding decoded
    passed t = rw (eq-eqb n.spare 0 z, fits, t)

    failed-5 : a || b ≡ false → Err 5 ≡ decoded n
    unfolding decoded
    failed-5 t = rw (eq-eqb n.spare 0 z, fits, t)

pub returns-then-n-ne0 : goal.returns-then-n-ne0
returns-then-n-ne0 c = failed-4 _ c.if-n-ne0.true

pub returns-then-item_fields-version_fields : goal.returns-then-item_fields-version_fields
returns-then-item_fields-version_fields c =
    passed _ c.if-n-ne0.false _ _ c.item_fields.ensures c.version_fields.ensures c.if-item_fields-version_fields.true

pub returns : goal.returns
returns c =
    failed-5 _ c.if-n-ne0.false _ _ c.item_fields.ensures c.version_fields.ensures c.if-item_fields-version_fields.false
