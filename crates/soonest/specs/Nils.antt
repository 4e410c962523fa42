-- What the nils of a rule's rows are found from.
use Rattle.std.specs.Prelude.{List, ℕ, length}
use Rattle.meaning.specs.declared.Rule.{Rule}
use Rattle.meaning.specs.Document.{Doc, is_version}
use Rattle.columns.specs.Lent.{Lends, Periods}
use Rattle.orders.specs.Order.{InOrder}
use Rattle.prepare.specs.Keys.{Keys}
use Rattle.places.specs.declared.Places.{Places}
use Rattle.places.specs.Placing.{Counted}

-- a document's value kinds and periods, its versions by begin, the row of each field version of rule r, and the places of the rule
pub record Nilled (doc : Doc) (r : Rule) (places : Places) (vkinds rows begins ends opens : List ℕ) : Type 0 where
  pub vkind : Lends doc.size doc.vkind 0 vkinds
  pub rows_are : Keys doc r rows
  pub periods : Periods doc begins ends
  pub opened : InOrder (is_version doc) begins opens (length opens)
  pub counted : Counted places
