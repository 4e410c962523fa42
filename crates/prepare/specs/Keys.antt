-- The keys by which field versions are chained, and the chains that come of them.
use Rattle.std.specs.Prelude.{◌≡◌, true, List, ℕ, ◌≤◌, ◌<◌, eqb, length, get_or}
use Rattle.meaning.specs.declared.Rule.{Rule}
use Rattle.meaning.specs.Document.{Doc}
use Rattle.meaning.specs.Select.{selected}
use Rattle.columns.specs.Chains.{past_last}
use Rattle.prepare.specs.Rows.{in_row}

-- entry f is v exactly where f is in the row of v; a number from the document's size on stands for no row
pub record Keys (doc : Doc) (r : Rule) (keys : List ℕ) : Type 0 where
  pub room : doc.size ≤ length keys
  pub key : (v f : ℕ) → v < doc.size → f < doc.size → eqb (get_or keys f 0) v ≡ in_row doc r v f

-- `last` leads from a selected version to the last in its row, `lower` from each in a row to the one before
pub record Linked (doc : Doc) (r : Rule) (last lower : List ℕ) : Type 0 where
  pub last_room : doc.size ≤ length last
  pub lower_room : doc.size ≤ length lower
  pub last_is : (v : ℕ) → v < doc.size → selected doc r v ≡ true → get_or last v 0 ≡ past_last (in_row doc r v) doc.size
  pub lower_is : (v f : ℕ) → v < doc.size → f < doc.size → in_row doc r v f ≡ true → get_or lower f 0 ≡ past_last (in_row doc r v) f
