-- What columns hold of a text, entry by entry: one field of every record that it lists, and zeros past them.
use Rattle.std.specs.Prelude.{◌≡◌, List, ◌++◌, map, pos, ℕ, ◌≤◌, length, drop, replicate, Result, Ok}
use Rattle.meaning.specs.declared.Node.{Node}
use Rattle.meaning.specs.Block.{limit}
use Rattle.meaning.specs.Lent.{Lent, lent}
use Rattle.typed.specs.declared.BadLine.{BadLine}
use Rattle.typed.specs.declared.TypedRecords.{TypedRecords}
use Rattle.typed.specs.Listing.{records, lines_at, told, text_of}

-- one field of every record from the front on, and the rest as it was
unfoldable pub entered : {A : Type 0} → (Node → A) → List Node → List A → List A
entered field ns old = map field ns ++ drop (length ns) old

-- eight columns after these records were entered in them, each in the front entries
pub record Entered (ns : List Node) (old new : Lent) : Type 0 where
  pub kind : new.kind ≡ entered (λ (n : Node). n.kind) ns old.kind
  pub vkind : new.vkind ≡ entered (λ (n : Node). n.vkind) ns old.vkind
  pub name : new.name ≡ entered (λ (n : Node). n.name) ns old.name
  pub parent : new.parent ≡ entered (λ (n : Node). n.parent) ns old.parent
  pub begin : new.begin ≡ entered (λ (n : Node). n.begin) ns old.begin
  pub end : new.end ≡ entered (λ (n : Node). n.end) ns old.end
  pub value : new.value ≡ entered (λ (n : Node). n.value) ns old.value
  pub item : new.item ≡ entered (λ (n : Node). n.item) ns old.item

-- each of eight columns has room for n entries
pub record Room (n : ℕ) (c : Lent) : Type 0 where
  pub kind : n ≤ length c.kind
  pub vkind : n ≤ length c.vkind
  pub name : n ≤ length c.name
  pub parent : n ≤ length c.parent
  pub begin : n ≤ length c.begin
  pub end : n ≤ length c.end
  pub value : n ≤ length c.value
  pub item : n ≤ length c.item

-- the lines of n records from a place on: the answer, and the columns where all are in the form
pub record LinesRead (text : List ℕ) (from n : ℕ) (old : Lent) (r : Result ℕ BadLine) (new : Lent) : Type 0 where
  pub answer : r ≡ (told n (lines_at text from 2 n)).answer
  pub columns : (ns : List Node) → lines_at text from 2 n ≡ records ns → Entered ns old new

-- a whole text: the answer, and the columns where that is a count
pub record TextRead (text : List ℕ) (old : Lent) (r : Result ℕ BadLine) (new : Lent) : Type 0 where
  pub answer : r ≡ (text_of text).answer
  pub columns : (n : ℕ) → r ≡ Ok n → Entered (text_of text).listed old new

-- eight columns with room for the largest document, all zeros
unfoldable pub blank : Lent
blank =
    lent
    (replicate limit 0) (replicate limit 0) (replicate limit 0) (replicate limit 0)
    (replicate limit 0) (replicate limit 0) (replicate limit (pos 0)) (replicate limit 0)

-- the columns of a result
abbrev pub columns_of : TypedRecords → Lent
columns_of r = lent r.kind r.vkind r.name r.parent r.begin r.end r.value r.item

-- the answer on a text, and every entry of the eight columns
pub record Reads (text : List ℕ) (r : TypedRecords) : Type 0 where
  pub answer : r.answer ≡ (text_of text).answer
  pub columns : Entered (text_of text).listed blank (columns_of r)
