-- An order of the records of kind 2 in a column is one of the versions of the document that the column holds.
use Rattle.std.proofs.Common.{◌≡◌, ℕ, eqb, List, get_or, sym, ap, ◌∙◌}
use Rattle.meaning.specs.Document.{Doc, is_version}
use Rattle.columns.specs.Lent.{Lends}
use Rattle.orders.specs.Order.{InOrder}

module _ (doc : Doc) (kinds : List ℕ) (lent : Lends doc.size doc.kind 0 kinds) where
  -- a record of kind 2 in the column is a version of the document
  same_kind : (x : ℕ) → eqb (get_or kinds x 0) 2 ≡ is_version doc x
  same_kind x = ap (λ k. eqb k 2) (lent.at x)

  pub versions : {column order : List ℕ} {m : ℕ} → InOrder (λ x. eqb (get_or kinds x 0) 2) column order m → InOrder (is_version doc) column order m
  versions o =
      record {
        room = o.room;
        place = o.place;
        rising = o.rising;
        all = λ x v. o.all x (same_kind x ∙ v);
        once = λ i h. (sym (same_kind _) ∙ (o.once i h).0, (o.once i h).1);
      }
