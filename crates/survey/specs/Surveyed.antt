-- What is found once for a document, for all its rules: representatives, classes, and the versions in two orders.
use Rattle.std.specs.Prelude.{List, ℕ, ◌≤◌, length}
use Rattle.meaning.specs.Block.{limit}
use Rattle.meaning.specs.Document.{Doc, is_version}
use Rattle.values.specs.Represents.{Represents}
use Rattle.groups.specs.Groups.{Groups}
use Rattle.orders.specs.Order.{InOrder}

-- a representative for each value, a class for each item number, and the versions by their begins and by their ends
pub record Surveyed (doc : Doc) (begins ends reps groups opens closes : List ℕ) (many : ℕ) : Type 0 where
  pub represents : Represents doc reps
  pub classes : Groups doc groups
  pub few : many ≤ limit
  pub opens_room : many ≤ length opens
  pub closes_room : many ≤ length closes
  pub opened : InOrder (is_version doc) begins opens many
  pub closed : InOrder (is_version doc) ends closes many
