-- Records in lent columns (MEANING 17): a count and a list for each field, and what comes of them without an image.
use Rattle.std.specs.Prelude.{ℕ, Bool, ◌&&◌, List, ℤ, pos, leb, length, get_or}
use Rattle.meaning.specs.declared.Node.{Node}
use Rattle.meaning.specs.Reading.{Reading}
use Rattle.meaning.specs.Walk.{listed}
use Rattle.meaning.specs.Order.{need, and_then}
use Rattle.meaning.specs.Block.{limit}
use Rattle.meaning.specs.Document.{of_nodes}
use Rattle.meaning.specs.Nodes.{accept}

-- a column for each field of the records
pub record Lent : Type 0 where
  pub kind : List ℕ
  pub vkind : List ℕ
  pub name : List ℕ
  pub parent : List ℕ
  pub begin : List ℕ
  pub end : List ℕ
  pub value : List ℤ
  pub item : List ℕ

abbrev pub lent : List ℕ → List ℕ → List ℕ → List ℕ → List ℕ → List ℕ → List ℤ → List ℕ → Lent
lent kinds vkinds names parents begins ends values items =
    record { kind = kinds; vkind = vkinds; name = names; parent = parents; begin = begins; end = ends; value = values; item = items }

-- record i of the columns; bytes 18 and 19 are no part of them, so they are 0
abbrev pub node_at : Lent → ℕ → Node
node_at c i =
    record { kind = get_or c.kind i 0; vkind = get_or c.vkind i 0; name = get_or c.name i 0; parent = get_or c.parent i 0; begin = get_or c.begin i 0; end = get_or c.end i 0; value = get_or c.value i (pos 0); item = get_or c.item i 0; spare = 0 }

-- the first n records
unfoldable pub nodes_lent : ℕ → Lent → List Node
nodes_lent n c = listed (node_at c) 0 n

-- each of eight columns of these lengths has n entries
abbrev pub roomy : ℕ → ℕ → ℕ → ℕ → ℕ → ℕ → ℕ → ℕ → ℕ → Bool
roomy n a b c d e f g h = leb n a && leb n b && leb n c && leb n d && leb n e && leb n f && leb n g && leb n h

abbrev pub long_enough : ℕ → Lent → Bool
long_enough n c =
    roomy n (length c.kind) (length c.vkind) (length c.name) (length c.parent) (length c.begin) (length c.end) (length c.value) (length c.item)

-- 1 for a count of none or too many, 12 for a short column, then what the document of the records is refused with
unfoldable pub read_lent : ℕ → Lent → Reading
read_lent n c =
    and_then (need (leb 1 n && leb n limit) 1 0) (and_then (need (long_enough n c) 12 0) (accept (of_nodes (nodes_lent n c))))
