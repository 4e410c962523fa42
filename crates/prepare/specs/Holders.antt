-- What the first passes over a document leave for a rule: the version that holds each field version, and the way from one selected version to the next.
use Rattle.std.specs.Prelude.{◌≡◌, Bool, List, ℕ, suc, ◌≤◌, ◌<◌, eqb, length, get_or}
use Rattle.meaning.specs.declared.Rule.{Rule}
use Rattle.meaning.specs.Document.{Doc}
use Rattle.meaning.specs.Select.{field_of}
use Rattle.marks.specs.Marks.{after}

-- entry f is v exactly where f is a field version of v; a number from the document's size on stands for no version
pub record Holders (doc : Doc) (r : Rule) (holders : List ℕ) : Type 0 where
  pub room : doc.size ≤ length holders
  pub held : (v f : ℕ) → v < doc.size → f < doc.size → eqb (get_or holders f 0) v ≡ field_of doc r v f

-- `start` leads to the lowest number that passes, entry i to the next one after i
pub record Skips (passes : ℕ → Bool) (n start : ℕ) (next : List ℕ) : Type 0 where
  pub room : n ≤ length next
  pub start_is : start ≡ after passes 0 n
  pub next_is : (i : ℕ) → i < n → get_or next i 0 ≡ after passes (suc i) n
