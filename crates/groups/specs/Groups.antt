-- Item numbers: a class for each version by its item number, and the field versions under one item number as a chain.
use Rattle.std.specs.Prelude.{◌≡◌, Bool, true, ◌&&◌, List, ℕ, ◌≤◌, ◌<◌, eqb, length, get_or}
use Rattle.meaning.specs.declared.Rule.{Rule}
use Rattle.meaning.specs.Walk.{any}
use Rattle.meaning.specs.Document.{Doc, is_version, number_of}
use Rattle.meaning.specs.Select.{selected}
use Rattle.columns.specs.Chains.{past_last}
use Rattle.prepare.specs.Rows.{in_row}

-- a class for each version, the same for two versions exactly where their item numbers are equal
pub record Groups (doc : Doc) (groups : List ℕ) : Type 0 where
  pub room : doc.size ≤ length groups
  pub low : (v : ℕ) → v < doc.size → get_or groups v 0 < doc.size
  pub same : (u v : ℕ) → is_version doc u ≡ true → is_version doc v ≡ true → eqb (number_of doc u) (number_of doc v) ≡ eqb (get_or groups u 0) (get_or groups v 0)

-- f is a wanted field version of a selected version of item number n
unfoldable pub in_group : Doc → Rule → ℕ → ℕ → Bool
in_group doc r n f = any (λ v. in_row doc r v f && eqb (number_of doc v) n) 0 doc.size

-- the field versions under the item number of each selected version, down from `last` at its class by `lower`; counted from one, 0 for none
pub record Gathered (doc : Doc) (r : Rule) (groups last lower : List ℕ) : Type 0 where
  pub last_room : doc.size ≤ length last
  pub lower_room : doc.size ≤ length lower
  pub last_is : (v : ℕ) → selected doc r v ≡ true → get_or last (get_or groups v 0) 0 ≡ past_last (in_group doc r (number_of doc v)) doc.size
  pub lower_is : (v f : ℕ) → selected doc r v ≡ true → in_group doc r (number_of doc v) f ≡ true → get_or lower f 0 ≡ past_last (in_group doc r (number_of doc v)) f
