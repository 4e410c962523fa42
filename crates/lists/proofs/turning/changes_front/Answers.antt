-- `lists::turning::changes_front` meets its contract: the first n entries of the columns are a document that can be judged.
use native.Mathlib.Nat.{sub-zero}
use Rattle.lists.proofs.turning.changes_front.Goals as goal

pub changes_columns-requires : goal.changes_columns-requires
changes_columns-requires c =
    let p = c.requires in
    let t = p.2 in
    (p.0, p.1, (t.doc, rw (sub-zero c.args.n) at t.tree, rw (sub-zero c.args.n) at t.periods, t.judgeable))
