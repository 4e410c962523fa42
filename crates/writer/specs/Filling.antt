-- What filling blocks from lent columns asks for, and the bytes that are filled in.
use Rattle.std.specs.Prelude.{ℕ, ◌+◌, ◌*◌, ◌≤◌, ◌<◌, List, ◌∷◌, ◌++◌, length}
use Rattle.meaning.specs.declared.Node.{Node}
use Rattle.meaning.specs.Bytes.{pair, quad, bits}
use Rattle.meaning.specs.Block.{limit}
use Rattle.meaning.specs.Nodes.{node_bytes}
use Rattle.meaning.specs.Lent.{Lent, node_at}
-- the columns as they are lent, as the meaning has them
pub use Rattle.document.specs.Front.{held}

-- each of the eight columns has n entries or more
pub record Reaches (n : ℕ) (c : Lent) : Type 0 where
  pub kind : n ≤ length c.kind
  pub vkind : n ≤ length c.vkind
  pub name : n ≤ length c.name
  pub parent : n ≤ length c.parent
  pub begin : n ≤ length c.begin
  pub end : n ≤ length c.end
  pub value : n ≤ length c.value
  pub item : n ≤ length c.item

-- a record's bytes, in two halves
abbrev pub first_ten : Node → List ℕ
first_ten n = n.kind ∷ n.vkind ∷ (pair n.name ++ (pair n.parent ++ (pair n.begin ++ pair n.end)))

abbrev pub last_ten : Node → List ℕ
last_ten n = quad (bits n.value) ++ (quad n.item ++ pair n.spare)

-- the bytes of record k after the first
abbrev pub bytes_from : Lent → ℕ → ℕ → List ℕ
bytes_from c first k = node_bytes (node_at c (first + k))

-- m records from the first on stand in the columns, no more than a block has, and the part has room for a block
pub record Behind (first m : ℕ) (c : Lent) (room : ℕ) : Type 0 where
  pub held : Reaches (first + m) c
  pub few : m ≤ 25
  pub fits : 508 ≤ room

-- block b is one of those that n records take, and the part has room for it
pub record Block (n b : ℕ) (c : Lent) (room : ℕ) : Type 0 where
  pub held : Reaches n c
  pub few : n ≤ limit
  pub here : 25 * b < n
  pub fits : 512 ≤ room
