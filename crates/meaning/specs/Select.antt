-- What a rule selects and reads, and what values are (MEANING 6). Nothing here speaks of days.
use Rattle.std.specs.Prelude.{ℕ, zero, suc, Bool, false, ◌&&◌, ◌||◌, not, cond, ℤ, ltb, eqb, get_or}
use Rattle.std.specs.Int.Signed.{le_z}
use Rattle.meaning.specs.declared.Rule.{Rule}
use Rattle.meaning.specs.Walk.{any}
use Rattle.meaning.specs.Bytes.{eq_z}
use Rattle.meaning.specs.Document.{Doc, is_version, above}
use Rattle.meaning.specs.Rules.{is_reference}

-- 65,535 in a path fits any name
abbrev pub name_fits : ℕ → ℕ → Bool
name_fits p name = eqb p 65535 || eqb p name

-- the names from the root to the item of version v fit the first k names of the path, no more and no fewer
unfoldable pub path_to : Doc → Rule → ℕ → ℕ → Bool
path_to doc r zero v = false
path_to doc r (suc k) v =
    let rest = path_to doc r k (above doc v) in
    name_fits (get_or r.path k 0) (doc.name (doc.parent v)) && cond (eqb (doc.parent v) 0) (eqb k 0) rest

unfoldable pub selected : Doc → Rule → ℕ → Bool
selected doc r v = is_version doc v && path_to doc r r.steps v

-- f is a field version of v: v itself for field 0, else a version of an item of that name that stands in v
unfoldable pub field_of : Doc → Rule → ℕ → ℕ → Bool
field_of doc r v f =
    cond (eqb r.field 0) (eqb f v) (is_version doc f && eqb (doc.name (doc.parent f)) r.field && eqb (above doc f) v)

-- the rule by itself reads version i: it is selected, or a field version of a selected one
unfoldable pub reads_own : Doc → Rule → ℕ → Bool
reads_own doc r i = selected doc r i || any (λ v. field_of doc r v i && selected doc r v) 0 doc.size

-- the rule r, which refers to q if it is a reference, reads version i
unfoldable pub reads : Doc → Rule → Rule → ℕ → Bool
reads doc q r i = reads_own doc r i || (is_reference r && reads_own doc q i)

-- a version has a value: a number, a text or a nil
unfoldable pub valued : Doc → ℕ → Bool
valued doc f = ltb 0 (doc.vkind f)

-- its value is a nil, known to be unknown
unfoldable pub is_nil : Doc → ℕ → Bool
is_nil doc f = eqb (doc.vkind f) 3

-- its value is a number
unfoldable pub is_number : Doc → ℕ → Bool
is_number doc f = eqb (doc.vkind f) 1

-- two values are equal if kind and number are; a nil equals nothing, itself included
unfoldable pub same_value : Doc → ℕ → ℕ → Bool
same_value doc f g = eqb (doc.vkind f) (doc.vkind g) && eq_z (doc.value f) (doc.value g) && not (is_nil doc f)

-- a number lies in the rule's min..max
unfoldable pub within : Rule → ℤ → Bool
within r z = le_z r.low z && le_z z r.high

-- Which versions are present is a parameter, p: on a day, in a window.
module _ (doc : Doc) (p : ℕ → Bool) where
  -- v is selected and present
  unfoldable pub present : Rule → ℕ → Bool
  present r v = selected doc r v && p v

  -- f is a present field version of v, with a value
  unfoldable pub gives : Rule → ℕ → ℕ → Bool
  gives r v f = field_of doc r v f && p f && valued doc f

  -- a nil is one of the values of v
  unfoldable pub has_nil : Rule → ℕ → Bool
  has_nil r v = any (λ f. gives r v f && is_nil doc f) 0 doc.size

  -- v has the value of f
  unfoldable pub has : Rule → ℕ → ℕ → Bool
  has r v f = any (λ g. gives r v g && same_value doc f g) 0 doc.size
