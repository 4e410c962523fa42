-- What columns of its own hold of an image, entry by entry, refused or not: what came of reading it, one field of every record, and zeros past them.
use Rattle.std.specs.Prelude.{◌≡◌, List, [], ◌++◌, map, ℤ, pos, ℕ, length, drop, replicate, Result, Err}
use Rattle.meaning.specs.declared.Node.{Node}
use Rattle.meaning.specs.Reading.{Reading, Accepted}
use Rattle.meaning.specs.declared.Refusal.{Refusal}
use Rattle.meaning.specs.Order.{in_order}
use Rattle.meaning.specs.Block.{node_form, image_tests, limit}
use Rattle.meaning.specs.Nodes.{nodes_of, read_nodes}
use Rattle.columns.specs.declared.Columns.{Columns}
use Rattle.nodes.specs.Loading.{loaded, tell_loaded}

-- what came of reading, and eight columns
abbrev pub together : Result ℕ Refusal → List ℕ → List ℕ → List ℕ → List ℕ → List ℕ → List ℕ → List ℤ → List ℕ → Columns
together answer kind vkind name parent begin end value item =
    record { loaded = answer; kind = kind; vkind = vkind; name = name; parent = parent; begin = begin; end = end; value = value; item = item }

-- all records where the blocks are good, none where one of them was refused
unfoldable pub records_after : Reading → List Node → List Node
records_after Accepted records = records
records_after (Err why) records = []

-- the records that are unpacked, whether or not the document that they make is then refused
unfoldable pub records_in : List ℕ → List Node
records_in image = records_after (in_order (image_tests node_form image)) (nodes_of image)

-- a column with room for the largest document, not yet written to
abbrev pub blank : {A : Type 0} → A → List A
blank zero = replicate limit zero

-- a column afterwards: one field of every record that was unpacked, and zeros past them
unfoldable pub column_of : {A : Type 0} → (Node → A) → A → List ℕ → List A
column_of field zero image = map field (records_in image) ++ drop (length (records_in image)) (blank zero)

-- what came of reading, as 01's number and values, and every entry of the eight columns
pub record Unpacks (image : List ℕ) (c : Columns) : Type 0 where
  pub answer : tell_loaded c.loaded ≡ tell_loaded (loaded (read_nodes image) (length (nodes_of image)))
  pub kind : c.kind ≡ column_of (λ (n : Node). n.kind) 0 image
  pub vkind : c.vkind ≡ column_of (λ (n : Node). n.vkind) 0 image
  pub name : c.name ≡ column_of (λ (n : Node). n.name) 0 image
  pub parent : c.parent ≡ column_of (λ (n : Node). n.parent) 0 image
  pub begin : c.begin ≡ column_of (λ (n : Node). n.begin) 0 image
  pub end : c.end ≡ column_of (λ (n : Node). n.end) 0 image
  pub value : c.value ≡ column_of (λ (n : Node). n.value) (pos 0) image
  pub item : c.item ≡ column_of (λ (n : Node). n.item) 0 image

-- nine columns not yet written to
pub record Blank (kinds vkinds names parents begins ends : List ℕ) (values : List ℤ) (items spares : List ℕ) : Type 0 where
  pub kind : kinds ≡ blank 0
  pub vkind : vkinds ≡ blank 0
  pub name : names ≡ blank 0
  pub parent : parents ≡ blank 0
  pub begin : begins ≡ blank 0
  pub end : ends ≡ blank 0
  pub value : values ≡ blank (pos 0)
  pub item : items ≡ blank 0
  pub spare : spares ≡ blank 0
