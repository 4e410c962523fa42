-- The change days of a rule along two orders of the versions, by begin and by end: what an order is, and where a walk along both stands.
use Rattle.std.specs.Prelude.{◌≡◌, Bool, true, ◌&&◌, ◌||◌, List, ℕ, ◌≤◌, ◌<◌, ltb, length, get_or}
use Rattle.meaning.specs.declared.Rule.{Rule}
use Rattle.meaning.specs.Document.{Doc, is_version}
use Rattle.meaning.specs.Rules.{is_reference}
use Rattle.meaning.specs.Select.{reads_own, reads}
use Rattle.columns.specs.Lent.{Periods}
use Rattle.marks.specs.Marks.{marked, Marks, after}

-- the versions of a document, and no other record, in the order of a column of days
pub record Sorted (doc : Doc) (day : ℕ → ℕ) (order : List ℕ) : Type 0 where
  pub stands : (x : ℕ) → is_version doc x ≡ true → ((j : ℕ) × (j < length order) × (get_or order j 0 ≡ x))
  pub version : (j : ℕ) → j < length order → is_version doc (get_or order j 0) ≡ true
  pub rising : (i j : ℕ) → i < j → j < length order → day (get_or order i 0) ≤ day (get_or order j 0)

-- an order over a column, with room in two lists of marks for each number of it
pub record Walkable (order days own referred : List ℕ) : Type 0 where
  pub small : (j : ℕ) → j < length order → get_or order j 0 < length days
  pub own_room : length days ≤ length own
  pub referred_room : length days ≤ length referred

-- record x is read, by the rule itself or, if it is a reference, by the rule that it refers to
unfoldable pub read_by : List ℕ → Bool → List ℕ → ℕ → Bool
read_by own reference referred x = marked own x || (reference && marked referred x)

-- record x is read, and its day lies after `day`
unfoldable pub turns_after : List ℕ → List ℕ → Bool → List ℕ → ℕ → ℕ → Bool
turns_after days own reference referred day x = read_by own reference referred x && ltb day (get_or days x 0)

-- i is the first position of an order, from `from` on, whose record is read and has its day after `day`, or the order's length
pub record Turn (order days own : List ℕ) (reference : Bool) (referred : List ℕ) (day from i : ℕ) : Type 0 where
  pub here : i ≡ after (λ k. turns_after days own reference referred day (get_or order k 0)) from (length order)

-- the day of position i of an order, `none` past its end
pub record DayAt (order days : List ℕ) (i none day : ℕ) : Type 0 where
  pub there : i < length order → day ≡ get_or days (get_or order i 0) 0
  pub beyond : length order ≤ i → day ≡ none

-- what a walk for rule r, which refers to q, is given: the periods, the two orders, and the marks of what is read
pub record Merges (doc : Doc) (q r : Rule) (opens closes begins ends own : List ℕ) (reference : Bool) (referred : List ℕ) : Type 0 where
  pub periods : Periods doc begins ends
  pub by_begin : Sorted doc doc.begin opens
  pub by_end : Sorted doc doc.end closes
  pub own_read : Marks (reads_own doc r) doc.size own
  pub refers : reference ≡ is_reference r
  pub referred_read : reference ≡ true → Marks (reads_own doc q) doc.size referred

-- of the versions read, those at the first n positions have their day up to `day`
abbrev pub Passed : (ℕ → Bool) → (ℕ → ℕ) → List ℕ → ℕ → ℕ → Type 0
Passed read column order n day = (k : ℕ) → k < n → read (get_or order k 0) ≡ true → column (get_or order k 0) ≤ day

-- a walk has come to `day`, and has passed so many positions of each order
pub record Come (doc : Doc) (q r : Rule) (opens closes : List ℕ) (begun ended day : ℕ) : Type 0 where
  pub since : r.begin ≤ day
  pub begins : Passed (reads doc q r) doc.begin opens begun day
  pub ends : Passed (reads doc q r) doc.end closes ended day
