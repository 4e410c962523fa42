-- Images of one block by the definitions that write them, rules written field by field, and images spoilt byte by byte: what the pinned examples are given.
use mathlib.Core.List.{List, [], ◌∷◌, ◌++◌, map}
use Prim.Native.Nat.{ℕ, ◌+◌, ◌*◌}
use lib.IntN.{ℤ, pos}
use lib.ListN.{length, take, drop, replicate}
use Rattle.meaning.specs.declared.Node.{Node}
use Rattle.meaning.specs.Bytes.{pair, quad, bits}
use Rattle.meaning.specs.Block.{node_form, rule_form, check, joined, padded, sealed, block_of}
use Rattle.meaning.specs.Nodes.{node_bytes}

-- four bytes of a signed number
abbrev signed_quad : ℤ → List ℕ
signed_quad z = quad (bits z)

unfoldable pub pairs : List ℕ → List ℕ
pairs [] = []
pairs (x ∷ xs) = pair x ++ pairs xs

-- these bytes in place of those from k on
unfoldable pub put : ℕ → List ℕ → List ℕ → List ℕ
put k bytes s = take k s ++ bytes ++ drop (k + length bytes) s

-- an item: name, parent, item number
abbrev pub item : ℕ → ℕ → ℕ → Node
item name parent number = record { kind = 1; vkind = 0; name = name; parent = parent; begin = 0; end = 0; value = pos 0; item = number; spare = 0 }

-- a version: value kind, parent, begin, end, value; the same without a value, with a number, with a text code, with a nil
abbrev version : ℕ → ℕ → ℕ → ℕ → ℤ → Node
version kind parent begin end value =
    record { kind = 2; vkind = kind; name = 0; parent = parent; begin = begin; end = end; value = value; item = 0; spare = 0 }

abbrev pub bare : ℕ → ℕ → ℕ → Node
bare parent begin end = version 0 parent begin end (pos 0)

abbrev pub number : ℕ → ℕ → ℕ → ℤ → Node
number parent begin end value = version 1 parent begin end value

abbrev pub text : ℕ → ℕ → ℕ → ℕ → Node
text parent begin end code = version 2 parent begin end (pos code)

abbrev pub nil : ℕ → ℕ → ℕ → Node
nil parent begin end = version 3 parent begin end (pos 0)

-- the 50 bytes of a rule: kind, 0 sequenced or 1 non-sequenced, path, field; over the whole century, referring to no rule, with no bounds and no window
unfoldable pub rule : ℕ → ℕ → List ℕ → ℕ → List ℕ
rule kind mode path field =
    kind ∷ mode ∷ padded 16 (pairs path) ++ length path ∷ 0 ∷ pair field ++ pair 65535 ++ replicate 8 0 ++ pair 0 ++ pair 36525 ++ replicate 14 0

-- the same rule: counting distinct values, referring to rule k, with bounds, over a period
unfoldable pub distinct : List ℕ → List ℕ
distinct r = put 19 (1 ∷ []) r

unfoldable pub to : ℕ → List ℕ → List ℕ
to k r = put 22 (pair k) r

unfoldable pub between : ℤ → ℤ → List ℕ → List ℕ
between low high r = put 24 (signed_quad low ++ signed_quad high) r

unfoldable pub during : ℕ → ℕ → List ℕ → List ℕ
during begin end r = put 32 (pair begin ++ pair end) r

-- windows of a length in days or in months, and the slide
unfoldable pub days : ℕ → ℕ → List ℕ → List ℕ
days span slide r = put 36 (pair span ++ 1 ∷ 0 ∷ pair slide) r

unfoldable pub months : ℕ → ℕ → List ℕ → List ℕ
months span slide r = put 36 (pair span ++ 2 ∷ 0 ∷ pair slide) r

-- an image of one block
abbrev pub nodes : List Node → List ℕ
nodes ns = block_of node_form 0 (map node_bytes ns)

abbrev pub table : List (List ℕ) → List ℕ
table rs = block_of rule_form 0 rs

-- a block with other bytes from k on, sealed anew; the same from byte k of node record i on
unfoldable pub spoilt : ℕ → List ℕ → List ℕ → List ℕ
spoilt k bytes s = sealed (put k bytes (take 508 s))

abbrev pub in_node : ℕ → ℕ → List ℕ → List ℕ → List ℕ
in_node i k bytes s = spoilt (8 + 20 * i + k) bytes s

-- one name that unfolds every writer here
unfoldable pub written : Unit {0}
unfolding check bits pairs joined padded put node_bytes rule distinct to between during days months sealed block_of spoilt
written = tt
