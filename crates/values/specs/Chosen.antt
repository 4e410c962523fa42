-- What the pass over the versions works out: for each the lowest version of an equal value, found along chains of versions that share a key.
use Rattle.std.specs.Prelude.{◌≡◌, Bool, true, ◌&&◌, ◌||◌, List, [], ℕ, ◌≤◌, ◌<◌, ℤ, eqb, length, get_or, Some}
use Rattle.meaning.specs.Walk.{first}
use Rattle.meaning.specs.Document.{Doc, columns, is_version}
use Rattle.meaning.specs.Select.{same_value}
use Rattle.meaning.specs.Block.{limit}
use Rattle.columns.specs.Chains.{past_last}
use Rattle.columns.specs.declared.Records.{Records}

-- three columns of one length, and no longer than a document can be
pub record Even (kinds vkinds : List ℕ) (values : List ℤ) : Type 0 where
  pub few : length kinds ≤ limit
  pub vkind : length vkinds ≡ length kinds
  pub value : length values ≡ length kinds

-- the document of three columns, of which nothing else is asked
abbrev pub held : List ℕ → List ℕ → List ℤ → Doc
held kinds vkinds values = columns kinds vkinds [] [] [] [] values [] []

-- the same of columns that are lent together
abbrev pub EvenOf : Records → Type 0
EvenOf r = Even r.kind.now r.vkind.now r.value.now

abbrev pub held_by : Records → Doc
held_by r = held r.kind.now r.vkind.now r.value.now

-- g is a version with the value of f, or f itself, which a nil is like alone
abbrev pub alike : Doc → ℕ → ℕ → Bool
alike doc f g = is_version doc g && (same_value doc f g || eqb f g)

-- x is no higher than f; for a version f it is the lowest version like f
pub record Chosen (doc : Doc) (f x : ℕ) : Type 0 where
  pub low : x ≤ f
  pub least : is_version doc f ≡ true → first (alike doc f) 0 doc.size ≡ Some x

-- each record below t has its entry
pub record ChosenBelow (doc : Doc) (t : ℕ) (reps : List ℕ) : Type 0 where
  pub each : (g : ℕ) → g < t → Chosen doc g (get_or reps g 0)

-- `lower` leads from a version to the next lower one with its key, which versions with equal values share
pub record ByValue (doc : Doc) (lower : List ℕ) : Type 0 where
  pub room : doc.size ≤ length lower
  pub key : ℕ → ℕ
  pub same : (f g : ℕ) → f < doc.size → g < doc.size → same_value doc f g ≡ true → key g ≡ key f
  pub steps : (f : ℕ) → f < doc.size → is_version doc f ≡ true → get_or lower f 0 ≡ past_last (λ g. is_version doc g && eqb (key g) (key f)) f
