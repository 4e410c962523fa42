-- Representatives: for each version a record number, the same for two versions exactly where their values are equal; so a nil has one of its own.
use Rattle.std.specs.Prelude.{◌≡◌, true, List, ℕ, ◌≤◌, ◌<◌, eqb, length, get_or}
use Rattle.meaning.specs.Document.{Doc, is_version}
use Rattle.meaning.specs.Select.{same_value}

pub record Represents (doc : Doc) (reps : List ℕ) : Type 0 where
  pub room : doc.size ≤ length reps
  pub low : (f : ℕ) → f < doc.size → get_or reps f 0 < doc.size
  pub same : (f g : ℕ) → is_version doc f ≡ true → is_version doc g ≡ true → (f ≡ g → ⊥) → same_value doc f g ≡ eqb (get_or reps f 0) (get_or reps g 0)
  pub kind : (f : ℕ) → is_version doc f ≡ true → doc.vkind (get_or reps f 0) ≡ doc.vkind f
