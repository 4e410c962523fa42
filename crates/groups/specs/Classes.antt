-- What the passes over the records work out: the lowest item of each item number, and the class by which a field version is chained.
use Rattle.std.specs.Prelude.{◌≡◌, Bool, true, ◌&&◌, cond, List, [], ℕ, ◌≤◌, ◌<◌, eqb, ltb, length, get_or, Some}
use Rattle.meaning.specs.Walk.{first}
use Rattle.meaning.specs.Document.{Doc, columns, is_item, is_version, number_of}
use Rattle.meaning.specs.Block.{limit}
use Rattle.columns.specs.Chains.{Twins}
use Rattle.groups.specs.declared.Nest.{Nest}

-- the document of three columns, of which nothing else is asked
abbrev pub held : List ℕ → List ℕ → List ℕ → Doc
held kinds parents items = columns kinds [] [] parents [] [] [] items []

-- three columns of one length, no longer than a document can be, in which the parent of a version is a lower item
pub record Nested (kinds parents items : List ℕ) : Type 0 where
  pub few : length kinds ≤ limit
  pub parent : length parents ≡ length kinds
  pub item : length items ≡ length kinds
  pub lower : (v : ℕ) → get_or kinds v 0 ≡ 2 → get_or parents v 0 < v
  pub of_item : (v : ℕ) → get_or kinds v 0 ≡ 2 → get_or kinds (get_or parents v 0) 0 ≡ 1

-- such columns as they are lent, with the items of a key chained
abbrev pub document : Nest → Doc
document t = held t.records.kind.now t.records.parent.now t.records.item.now

pub record Chained (t : Nest) : Type 0 where
  pub nested : Nested t.records.kind.now t.records.parent.now t.records.item.now
  pub twins : Twins (document t) t.twin.now

-- j is an item with the number n
abbrev pub numbered : Doc → ℕ → ℕ → Bool
numbered doc n j = is_item doc j && eqb (doc.item j) n

-- x is no higher than i; for an item, and for a version, it is the lowest item of its number
pub record Class (doc : Doc) (i x : ℕ) : Type 0 where
  pub low : x ≤ i
  pub of_item : is_item doc i ≡ true → first (numbered doc (doc.item i)) 0 doc.size ≡ Some x
  pub of_version : is_version doc i ≡ true → first (numbered doc (number_of doc i)) 0 doc.size ≡ Some x

-- each record below t has its class
pub record ClassedBelow (doc : Doc) (t : ℕ) (classes : List ℕ) : Type 0 where
  pub each : (j : ℕ) → j < t → Class doc j (get_or classes j 0)

-- the class of the version v, of n; the limit, which is no class, where v is none
abbrev pub class_at : List ℕ → ℕ → ℕ → ℕ
class_at groups n v = cond (ltb v n) (get_or groups v 0) limit
