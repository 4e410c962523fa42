-- The versions of a document in the order of a column of days, the field versions under one item number chained along it, and what is worked out
-- along it for each record.
use Rattle.std.specs.Prelude.{◌≡◌, Bool, true, cond, List, ℕ, ◌-◌, ◌≤◌, ◌<◌, eqb, leb, ℤ, pos, length, get_or}
use Rattle.meaning.specs.declared.Rule.{Rule}
use Rattle.meaning.specs.Block.{limit}
use Rattle.meaning.specs.Document.{Doc, is_version, number_of}
use Rattle.meaning.specs.Select.{selected}
use Rattle.columns.specs.Lent.{Lends, Periods}
use Rattle.columns.specs.declared.Records.{Records}
use Rattle.prepare.specs.Keys.{Keys}
use Rattle.groups.specs.Groups.{Groups, in_group}
use Rattle.steps.specs.Greatest.{Chain, greater}
use Rattle.steps.specs.Sweeping.{Sought}

-- the versions of a document, and no other record, in the order of a column of days
pub record Sorted (doc : Doc) (day : ℕ → ℕ) (order : List ℕ) : Type 0 where
  pub stands : (x : ℕ) → is_version doc x ≡ true → (j : ℕ) × (j < length order) × (get_or order j 0 ≡ x)
  pub version : (j : ℕ) → j < length order → is_version doc (get_or order j 0) ≡ true
  pub rising : (i j : ℕ) → i < j → j < length order → day (get_or order i 0) ≤ day (get_or order j 0)

-- values and periods, the row of each field version, the class of each version's item number, and the versions in the order of their ends, in
-- no more places than a document can have records
pub record Closing (doc : Doc) (r : Rule) (vkinds : List ℕ) (values : List ℤ) (begins ends keys groups closes : List ℕ) : Type 0 where
  pub vkind : Lends doc.size doc.vkind 0 vkinds
  pub value : Lends doc.size doc.value (pos 0) values
  pub periods : Periods doc begins ends
  pub rows : Keys doc r keys
  pub classes : Groups doc groups
  pub few : length closes ≤ limit
  pub order : Sorted doc doc.end closes

-- the same of columns lent together
abbrev pub ClosingOf : Doc → Rule → Records → List ℕ → List ℕ → List ℕ → Type 0
ClosingOf doc r s keys groups closes = Closing doc r s.vkind.now s.value.now s.begin.now s.end.now keys groups closes

-- the field version at place j is under item number n
abbrev pub group_at : Doc → Rule → List ℕ → ℕ → ℕ → Bool
group_at doc r order n j = in_group doc r n (get_or order j 0)

-- those under one item number, chained along an order of n records: `last` leads from a class to the last place, `lower` from a place to the one before
pub record Threaded (n : ℕ) (keys groups order last lower : List ℕ) : Type 0 where
  pub last_room : length last ≡ limit
  pub lower_room : length lower ≡ limit
  pub low : (k : ℕ) → get_or last k 0 ≤ length order
  pub chain : (doc : Doc) (r : Rule) → doc.size ≡ n → Keys doc r keys → Groups doc groups → (v : ℕ) → selected doc r v ≡ true
      → Chain (group_at doc r order (number_of doc v)) (length order) (get_or last (get_or groups v 0) 0) lower

-- the end of the record at a place counted from one; 0 at 0
unfoldable pub end_at : List ℕ → List ℕ → ℕ → ℕ
end_at ends order place = cond (eqb place 0) 0 (get_or ends (get_or order (place - 1) 0) 0)

-- the reach of a record with the key v, of n, given the latest end of a wrong step to it, and a place of one that parts the two: 0 without a row, `ever`
-- for what is no number
unfoldable pub settled_as : ℕ → ℕ → ℕ → ℕ → ℕ → ℕ
settled_as v n vkind until parting = cond (leb n v) 0 (cond (eqb vkind 1) (cond (eqb parting 0) until 0) 65535)

-- how the reaches come from the searches
pub record Settled (vkinds : List ℕ) (values : List ℤ) (begins ends keys order prior start : List ℕ) (low high : ℤ) (out : List ℕ) : Type 0 where
  pub room : length out ≡ limit
  pub above : List ℕ
  pub beneath : List ℕ
  pub until : List ℕ
  pub parting : List ℕ
  pub aboves : Sought 2 vkinds values begins ends order prior start begins low high above
  pub beneaths : Sought 3 vkinds values begins ends order prior start begins low high beneath
  pub untils : (f : ℕ) → f < length values → get_or until f 0 ≡ end_at ends order (greater (get_or above f 0) (get_or beneath f 0))
  pub partings : Sought 1 vkinds values begins ends order prior start until low high parting
  pub answer : (f : ℕ) → f < length values → get_or out f 0 ≡ settled_as (get_or keys f 0) (length values) (get_or vkinds f 0) (get_or until f 0) (get_or parting f 0)
