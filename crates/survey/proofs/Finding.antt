-- What the four finds give of a document is its survey: an order of the records of kind 2 is one of its versions, and two are equally long.
use mathlib.Core.Path.{◌≡◌}
use mathlib.Core.List.{List}
use Prim.Native.Nat.{ℕ, ◌≤◌}
use native.Mathlib.Omega.{arith}
use lib.Dec.{eqb}
use lib.ListN.{length, get_or}
use Rattle.meaning.specs.Block.{limit}
use Rattle.meaning.specs.Document.{Doc}
use Rattle.columns.specs.Lent.{Lends}
use Rattle.values.specs.Represents.{Represents}
use Rattle.groups.specs.Groups.{Groups}
use Rattle.orders.specs.Order.{InOrder}
use Rattle.orders.proofs.Lengths.{equally_long}
use Rattle.orders.proofs.Versions.{versions}
use Rattle.survey.specs.Surveyed.{Surveyed}

module _ (doc : Doc) (kinds : List ℕ) (lent : Lends doc.size doc.kind 0 kinds) where
  module _ {begins ends reps groups opens closes : List ℕ} {many many' : ℕ} where
    pub surveyed : Represents doc reps → Groups doc groups
        → InOrder (λ x. eqb (get_or kinds x 0) 2) begins opens many → many ≤ limit → length opens ≡ limit
        → InOrder (λ x. eqb (get_or kinds x 0) 2) ends closes many' → length closes ≡ limit
        → Surveyed doc begins ends reps groups opens closes many
    surveyed r g o few open-room c close-room = record {
      represents = r;
      classes = g;
      few = few;
      opens_room = omega arith;
      closes_room = omega arith;
      opened = versions doc kinds lent o;
      closed = rw (equally_long o c) (versions doc kinds lent c);
    }
