-- The banks of the pinned examples, record by record: each is accepted as it stands here, and its image holds these records.
use mathlib.Core.Path.{refl}
use mathlib.Core.List.{List, [], ◌∷◌}
use Prim.Native.Nat.{ℕ, zero, suc}
use lib.IntN.{pos, negsuc}
use lib.ListN.{replicate}
use Rattle.meaning.specs.declared.Node.{Node}
use Rattle.meaning.specs.Document.{of_nodes}
use Rattle.meaning.proofs.Opened.{opened}
use Rattle.meaning.proofs.Pinning.{Held}
use Rattle.meaning.specs.Block.{node_form, rule_form, block_of}
use Rattle.meaning.specs.Nodes.{node_bytes}
use Rattle.meaning.proofs.Writing.{item, bare, number, text, nil, rule, nodes, table, written}

-- a root with one version, over the whole century
unfoldable pub lone : List Node
lone = item 1 65535 1 ∷ bare 0 0 36525 ∷ []

pub lone_held : Held (nodes lone) (of_nodes lone)
unfolding opened written lone
lone_held = record { nodes_read = refl; document = refl }

-- the greatest and the least of what a field may hold; versions that end with their parent and begin where the last ended
unfoldable pub little : List ℕ
little =
    nodes (
    item 1 65535 1
    ∷ bare 0 10 60
    ∷ item 2 1 2
    ∷ number 2 10 30 (negsuc 2147483647)
    ∷ text 2 30 60 0
    ∷ item 65534 3 4294967295
    ∷ text 5 10 30 2147483647
    ∷ bare 0 60 36525
    ∷ []
    )

-- eight items below one another, names 11 to 18, and a number in the last
unfoldable pub deep : List Node
deep =
    item 11 65535 1
    ∷ bare 0 0 10
    ∷ item 12 1 2
    ∷ bare 2 0 10
    ∷ item 13 3 3
    ∷ bare 4 0 10
    ∷ item 14 5 4
    ∷ bare 6 0 10
    ∷ item 15 7 5
    ∷ bare 8 0 10
    ∷ item 16 9 6
    ∷ bare 10 0 10
    ∷ item 17 11 7
    ∷ bare 12 0 10
    ∷ item 18 13 8
    ∷ number 14 0 10 (pos 5)
    ∷ []

pub deep_held : Held (nodes deep) (of_nodes deep)
unfolding opened written deep
deep_held = record { nodes_read = refl; document = refl }

-- n items in record 1, their numbers from k on
unfoldable pub items : ℕ → ℕ → List Node
items k zero = []
items k (suc n) = item 2 1 k ∷ items (suc k) n

-- two blocks: 25 records and one, a version of the item in record 2
unfoldable pub full_block : List ℕ
full_block = nodes (item 1 65535 1 ∷ bare 0 0 10 ∷ items 2 23)

unfoldable pub last_block : List ℕ
last_block = block_of node_form 1 (node_bytes (bare 2 3 4) ∷ [])

-- a key of one name, and two blocks of ten such rules and one
unfoldable pub plain : List ℕ
plain = rule 1 0 (1 ∷ []) 0

unfoldable pub ten_rules : List ℕ
ten_rules = table (replicate 10 plain)

unfoldable pub last_rule : List ℕ
last_rule = block_of rule_form 1 (rule 2 0 (1 ∷ []) 0 ∷ [])

-- numbers of both signs: 5 in record 3 and −6 in 5, of name 2; −6 in 7 and 5 in 9, of name 3
unfoldable pub signs : List Node
signs =
    item 1 65535 1
    ∷ bare 0 0 10
    ∷ item 2 1 2
    ∷ number 2 0 10 (pos 5)
    ∷ item 2 1 3
    ∷ number 4 0 10 (negsuc 5)
    ∷ item 3 1 4
    ∷ number 6 0 10 (negsuc 5)
    ∷ item 3 1 5
    ∷ number 8 0 10 (pos 5)
    ∷ []

-- Mixers A in record 3 and B in 8 with serials, name 3; plugs C in 15 and D in 24 that name serials, name 6. B has two serials
-- on the days 20 to 39, C on 75 to 79; one of A's serials and some of C's are numbers; version 13 has no value.
unfoldable pub shelf : List Node
shelf =
    item 1 65535 1
    ∷ bare 0 0 100
    ∷ item 2 1 2
    ∷ bare 2 0 100
    ∷ item 3 3 3
    ∷ text 4 0 50 7
    ∷ number 4 50 100 (pos 7)
    ∷ item 2 1 4
    ∷ bare 7 0 100
    ∷ item 3 8 5
    ∷ text 9 0 100 7
    ∷ item 3 8 6
    ∷ text 11 20 40 8
    ∷ bare 11 40 60
    ∷ item 5 1 7
    ∷ bare 14 0 100
    ∷ item 6 15 8
    ∷ text 16 0 20 7
    ∷ text 16 20 40 8
    ∷ number 16 50 70 (pos 7)
    ∷ number 16 70 80 (pos 8)
    ∷ item 6 15 9
    ∷ number 21 75 80 (pos 7)
    ∷ item 5 1 10
    ∷ bare 23 0 100
    ∷ []

pub shelf_held : Held (nodes shelf) (of_nodes shelf)
unfolding opened written shelf
shelf_held = record { nodes_read = refl; document = refl }

-- Mixer 2 in records 3 and 7, with one serial; mixer 4 in record 11, with the number 7 and then text 7; a plug in 16 that names
-- serials; mixer 8 in record 22, without any.
unfoldable pub holders : List Node
holders =
    item 1 65535 1
    ∷ bare 0 0 100
    ∷ item 2 1 2
    ∷ bare 2 0 50
    ∷ item 3 3 3
    ∷ text 4 0 50 7
    ∷ item 2 1 2
    ∷ bare 6 50 100
    ∷ item 3 7 3
    ∷ text 8 50 100 7
    ∷ item 2 1 4
    ∷ bare 10 60 100
    ∷ item 3 11 5
    ∷ number 12 60 80 (pos 7)
    ∷ text 12 80 90 7
    ∷ item 5 1 6
    ∷ bare 15 0 100
    ∷ item 6 16 7
    ∷ text 17 10 20 7
    ∷ number 17 85 90 (pos 7)
    ∷ text 17 95 99 9
    ∷ item 2 1 8
    ∷ bare 21 0 30
    ∷ []

pub holders-held : Held (nodes holders) (of_nodes holders)
unfolding opened written holders
holders-held = record { nodes_read = refl; document = refl }

-- losses of one mixer, each on one day: three in January 2000, then on the last days of November 2000 to February 2001 and on 5 March
unfoldable pub meter : List Node
meter =
    item 1 65535 1
    ∷ bare 0 0 36525
    ∷ item 2 1 2
    ∷ bare 2 0 36525
    ∷ item 4 3 3
    ∷ number 4 5 6 (pos 1)
    ∷ number 4 17 18 (pos 2)
    ∷ number 4 28 29 (pos 3)
    ∷ number 4 334 335 (pos 4)
    ∷ number 4 365 366 (pos 5)
    ∷ number 4 396 397 (pos 6)
    ∷ number 4 424 425 (pos 7)
    ∷ number 4 429 430 (pos 8)
    ∷ []

pub meter_held : Held (nodes meter) (of_nodes meter)
unfolding opened written meter
meter_held = record { nodes_read = refl; document = refl }

-- losses of mixer 2, which stands in records 3 and 10: 0, then 100, then 160; between the first two, under another item, what is given as record 8
unfoldable pub steps_by : Node → List Node
steps_by between =
    item 1 65535 1
    ∷ bare 0 0 100
    ∷ item 2 1 2
    ∷ bare 2 0 50
    ∷ item 4 3 3
    ∷ number 4 0 10 (pos 0)
    ∷ number 4 20 30 (pos 100)
    ∷ item 4 3 4
    ∷ between
    ∷ item 2 1 2
    ∷ bare 9 50 100
    ∷ item 4 10 5
    ∷ number 11 60 70 (pos 160)
    ∷ []

-- Mixers A in record 3 and B in 9 with serials, name 3; a plug in 18 that names serials, name 6. A has a nil, then 7 from day 20 on and 0 from 60 on; B a nil,
-- then 8 on the days 30 to 89, and beside it or alone three nils; the plug a nil, then 8 from day 10 on, and beside it a nil on the days 70 to 89.
unfoldable pub unknown : List Node
unknown =
    item 1 65535 1
    ∷ bare 0 0 100
    ∷ item 2 1 2
    ∷ bare 2 0 100
    ∷ item 3 3 3
    ∷ nil 4 0 20
    ∷ number 4 20 60 (pos 7)
    ∷ number 4 60 100 (pos 0)
    ∷ item 2 1 4
    ∷ bare 8 0 100
    ∷ item 3 9 5
    ∷ nil 10 0 30
    ∷ number 10 30 90 (pos 8)
    ∷ item 3 9 6
    ∷ nil 13 20 30
    ∷ nil 13 40 60
    ∷ nil 13 90 100
    ∷ item 5 1 7
    ∷ bare 17 0 100
    ∷ item 6 18 8
    ∷ nil 19 0 10
    ∷ number 19 10 100 (pos 8)
    ∷ item 6 18 9
    ∷ nil 22 70 90
    ∷ []

pub unknown-held : Held (nodes unknown) (of_nodes unknown)
unfolding opened written unknown
unknown-held = record { nodes_read = refl; document = refl }
