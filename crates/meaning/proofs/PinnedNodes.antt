-- Pinned examples of node images: each refusal from 1 to 10 with its place, which of two comes first, and 11 and 12 of a slice.
use mathlib.Core.Path.{refl}
use mathlib.Core.List.{List, [], ◌∷◌, ◌++◌}
use Prim.Native.Nat.{ℕ, suc, ◌*◌}
use lib.ListN.{drop, replicate}
use Rattle.meaning.specs.Block.{node_form}
use Rattle.meaning.specs.Reading.{Refused}
use Rattle.std.specs.Prelude.{Ok}
use Rattle.meaning.proofs.Asking.{on_rule, on_slice, on_changes, told, stored}
use Rattle.meaning.proofs.Opened.{opened}
use Rattle.meaning.specs.Bytes.{pair, quad}
use Rattle.meaning.proofs.Writing.{put, item, bare, nodes, spoilt, in_node, written}
use Rattle.meaning.proofs.Pinning.{Pin, pin, Right}
use Rattle.meaning.proofs.Working.{by-pinning}
use Rattle.meaning.proofs.PinnedImages.{little, deep, items, full_block, last_block}

-- the slice of a day from this image, into a list with exactly the room it needs
abbrev sliced : List ℕ → ℕ → List ℕ → ℕ → Pin
sliced image day list n = pin image [] (on_slice day n) (stored (Ok n) list)

-- this image is refused with this number and place
abbrev refused : List ℕ → ℕ → ℕ → Pin
refused image number place = pin image [] (on_slice 20 2) (stored (Refused number place) (0 ∷ 0 ∷ []))

unfoldable pub node_blocks : List Pin
node_blocks =
    -- 1: no byte, one too few or too many for one block, one block too many; as many as there can be go on to the check
    refused [] 1 0
    ∷ refused (drop 1 little) 1 0
    ∷ refused (0 ∷ little) 1 0
    ∷ refused (replicate (512 * suc node_form.most) 0) 1 0
    ∷ refused (replicate (512 * node_form.most) 0) 2 0
    -- 2: a byte of the header, of a record, of the rest, of the check
    ∷ refused (put 7 (1 ∷ []) little) 2 0
    ∷ refused (put 88 (1 ∷ []) little) 2 0
    ∷ refused (put 507 (1 ∷ []) little) 2 0
    ∷ refused (put 508 (0 ∷ []) little) 2 0
    ∷ refused (put 511 (0 ∷ []) little) 2 0
    ∷ refused (full_block ++ put 9 (1 ∷ []) last_block) 2 1
    -- 3: the block's number, its four bytes
    ∷ refused (spoilt 0 (1 ∷ []) little) 3 0
    ∷ refused (spoilt 1 (1 ∷ []) little) 3 0
    ∷ refused (spoilt 2 (1 ∷ []) little) 3 0
    ∷ refused (spoilt 3 (1 ∷ []) little) 3 0
    ∷ refused (full_block ++ spoilt 0 (0 ∷ []) last_block) 3 1
    -- 3: no record, 26, 256 and 8, 24 in a block that is not the last
    ∷ refused (spoilt 4 (0 ∷ []) little) 3 0
    ∷ refused (spoilt 4 (26 ∷ []) little) 3 0
    ∷ refused (spoilt 5 (1 ∷ []) little) 3 0
    ∷ refused (spoilt 4 (24 ∷ []) full_block ++ last_block) 3 0
    -- 3: the kind of a rule image, form 1
    ∷ refused (spoilt 6 (2 ∷ []) little) 3 0
    ∷ refused (spoilt 7 (1 ∷ []) little) 3 0
    -- 4 after the last record: its first byte, the last one before the check, in the second block, a record that is not counted
    ∷ refused (in_node 8 0 (1 ∷ []) little) 4 8
    ∷ refused (spoilt 507 (1 ∷ []) little) 4 8
    ∷ refused (full_block ++ spoilt 507 (1 ∷ []) last_block) 4 26
    ∷ refused (spoilt 4 (7 ∷ []) little) 4 7
    -- block by block: a check in the second comes after form 1 in the first, and ahead of a bad record in the first; 2 ahead of 3, 3 of 4
    ∷ refused (spoilt 7 (1 ∷ []) full_block ++ put 9 (1 ∷ []) last_block) 3 0
    ∷ refused (in_node 2 1 (1 ∷ []) full_block ++ put 9 (1 ∷ []) last_block) 2 1
    ∷ refused (put 508 (0 ∷ []) (spoilt 7 (1 ∷ []) little)) 2 0
    ∷ refused (spoilt 7 (1 ∷ []) (spoilt 507 (1 ∷ []) little)) 3 0
    ∷ refused (spoilt 507 (1 ∷ []) (in_node 0 18 (1 ∷ []) little)) 4 8
    -- all is well: two blocks, and the lists of a day
    ∷ sliced (full_block ++ last_block) 3 (1 ∷ 25 ∷ []) 2
    ∷ sliced (full_block ++ last_block) 4 (1 ∷ []) 1
    ∷ sliced little 29 (1 ∷ 3 ∷ 6 ∷ []) 3
    ∷ sliced little 30 (1 ∷ 4 ∷ []) 2
    ∷ sliced little 36524 (7 ∷ []) 1
    ∷ sliced (in_node 7 1 (3 ∷ []) little) 36524 (7 ∷ []) 1
    ∷ sliced (nodes deep) 0 (1 ∷ 3 ∷ 5 ∷ 7 ∷ 9 ∷ 11 ∷ 13 ∷ 15 ∷ []) 8
    ∷ []

pub node-blocks : Right node_blocks
unfolding opened written node_blocks little deep items full_block last_block
node-blocks = by-pinning node_blocks refl

unfoldable pub node_records : List Pin
node_records =
    -- 4 in a record: bytes 18 and 19
    refused (in_node 3 18 (1 ∷ []) little) 4 3
    ∷ refused (in_node 0 19 (1 ∷ []) little) 4 0
    -- 5: neither an item nor a version
    ∷ refused (in_node 0 0 (0 ∷ []) little) 5 0
    ∷ refused (in_node 7 0 (3 ∷ []) little) 5 7
    -- 5 of an item: a value kind, name 0, name 65,535, a begin, an end, a value, item number 0
    ∷ refused (in_node 2 1 (1 ∷ []) little) 5 2
    ∷ refused (in_node 2 2 (pair 0) little) 5 2
    ∷ refused (in_node 5 2 (pair 65535) little) 5 5
    ∷ refused (in_node 2 6 (pair 1) little) 5 2
    ∷ refused (in_node 2 8 (pair 256) little) 5 2
    ∷ refused (in_node 2 10 (quad 1) little) 5 2
    ∷ refused (in_node 2 13 (128 ∷ []) little) 5 2
    ∷ refused (in_node 0 14 (quad 0) little) 5 0
    -- 5 of a version: value kind 4, a nil with a value below 0 or of 1, a name, begin = end, begin after end, end 36,526, a value without a kind,
    -- a negative text, an item number
    ∷ refused (in_node 7 1 (4 ∷ []) little) 5 7
    ∷ refused (in_node 3 1 (3 ∷ []) little) 5 3
    ∷ refused (in_node 7 10 (quad 1) (in_node 7 1 (3 ∷ []) little)) 5 7
    ∷ refused (in_node 3 2 (pair 256) little) 5 3
    ∷ refused (in_node 3 6 (pair 30) little) 5 3
    ∷ refused (in_node 3 6 (pair 31) little) 5 3
    ∷ refused (in_node 7 8 (pair 36526) little) 5 7
    ∷ refused (in_node 3 1 (0 ∷ []) little) 5 3
    ∷ refused (in_node 3 1 (2 ∷ []) little) 5 3
    ∷ refused (in_node 3 14 (quad 16777216) little) 5 3
    -- 6: record 0 a sound version; its parent not 65,535
    ∷ refused (nodes (bare 65535 0 9 ∷ [])) 6 0
    ∷ refused (in_node 0 4 (pair 0) little) 6 0
    ∷ refused (in_node 0 4 (pair 65534) little) 6 0
    -- 6: the parent the record itself, a higher version, past the last, 65,535; an item in an item, a version of a version
    ∷ refused (in_node 2 4 (pair 2) little) 6 2
    ∷ refused (in_node 2 4 (pair 3) little) 6 2
    ∷ refused (in_node 3 4 (pair 5) little) 6 3
    ∷ refused (in_node 2 4 (pair 8) little) 6 2
    ∷ refused (in_node 2 4 (pair 65535) little) 6 2
    ∷ refused (in_node 5 4 (pair 2) little) 6 5
    ∷ refused (in_node 4 4 (pair 3) little) 6 4
    -- 8: a ninth item on the way
    ∷ refused (nodes (deep ++ item 19 15 9 ∷ [])) 8 16
    -- record by record, in each 4, 5, 6, 8: both in one record, and the later number in the earlier record
    ∷ refused (in_node 3 18 (1 ∷ []) (in_node 3 1 (3 ∷ []) little)) 4 3
    ∷ refused (in_node 3 18 (1 ∷ []) (in_node 2 1 (3 ∷ []) little)) 5 2
    ∷ refused (in_node 2 1 (1 ∷ []) (in_node 2 4 (pair 2) little)) 5 2
    ∷ refused (in_node 3 1 (3 ∷ []) (in_node 2 4 (pair 2) little)) 6 2
    ∷ refused (nodes (deep ++ item 19 14 9 ∷ [])) 6 16
    ∷ refused (nodes (deep ++ item 19 15 9 ∷ bare 15 0 9 ∷ [])) 8 16
    ∷ []

pub node-records : Right node_records
unfolding opened written node_records little deep
node-records = by-pinning node_records refl

unfoldable pub node_trees : List Pin
node_trees =
    -- 7: begins on the last day of a lower version of its item, leaves its parent's period by a day at the begin, and at the end
    refused (in_node 4 6 (pair 29) little) 7 4
    ∷ refused (in_node 6 6 (pair 9) little) 7 6
    ∷ refused (in_node 6 8 (pair 31) little) 7 6
    -- 7: the lowest of two, and versions of one item in the wrong order
    ∷ refused (in_node 4 6 (pair 29) (in_node 6 8 (pair 31) little)) 7 4
    ∷ refused (nodes (item 1 65535 1 ∷ bare 0 10 20 ∷ bare 0 0 10 ∷ [])) 7 2
    -- a version without a parent's period: the root's
    ∷ sliced (nodes (item 1 65535 1 ∷ bare 0 10 20 ∷ bare 0 20 30 ∷ [])) 20 (2 ∷ []) 1
    -- 9: one item number with two names, without any version too; one name and a shared day, the first or the last
    ∷ refused (in_node 5 14 (quad 2) little) 9 5
    ∷ refused (nodes (item 1 65535 1 ∷ bare 0 0 9 ∷ item 2 1 1 ∷ [])) 9 2
    ∷ refused (nodes (item 1 65535 1 ∷ bare 0 0 9 ∷ item 2 1 2 ∷ bare 2 0 5 ∷ item 2 1 2 ∷ bare 4 4 9 ∷ [])) 9 4
    ∷ refused (nodes (item 1 65535 1 ∷ bare 0 0 9 ∷ item 2 1 2 ∷ bare 2 4 9 ∷ item 2 1 2 ∷ bare 4 0 5 ∷ [])) 9 4
    -- two items with one number and one name that touch, either first, and one without a version with the number of its ancestor
    ∷ sliced (nodes (item 1 65535 1 ∷ bare 0 0 9 ∷ item 2 1 2 ∷ bare 2 0 5 ∷ item 2 1 2 ∷ bare 4 5 9 ∷ item 1 1 1 ∷ [])) 5 (1 ∷ 5 ∷ []) 2
    ∷ sliced (nodes (item 1 65535 1 ∷ bare 0 0 9 ∷ item 2 1 2 ∷ bare 2 5 9 ∷ item 2 1 2 ∷ bare 4 0 5 ∷ [])) 5 (1 ∷ 3 ∷ []) 2
    -- 10: the root without a version, a day missing between two; one day is enough
    ∷ refused (nodes (item 1 65535 1 ∷ [])) 10 0
    ∷ refused (in_node 7 6 (pair 61) little) 10 0
    ∷ sliced (nodes (item 1 65535 1 ∷ bare 0 0 1 ∷ [])) 0 (1 ∷ []) 1
    -- all records ahead of 7: 5 at a high record, 7 at a low one; 8 likewise; then 7 ahead of 9, and 9 of 10
    ∷ refused (in_node 7 1 (4 ∷ []) (in_node 4 6 (pair 29) little)) 5 7
    ∷ refused (in_node 3 8 (pair 11) (nodes (deep ++ item 19 15 9 ∷ []))) 8 16
    ∷ refused (in_node 5 14 (quad 2) (in_node 6 8 (pair 31) little)) 7 6
    ∷ refused (in_node 5 14 (quad 2) (in_node 7 6 (pair 61) little)) 9 5
    -- 11: the day after the last; ahead of it the image; 12: one place too few; more room than is needed is left as it was
    ∷ pin little [] (on_slice 36525 0) (stored (Refused 11 0) [])
    ∷ pin (in_node 7 6 (pair 61) little) [] (on_slice 36525 0) (stored (Refused 10 0) [])
    ∷ pin little [] (on_slice 29 2) (stored (Refused 12 0) (0 ∷ 0 ∷ []))
    ∷ pin little [] (on_slice 29 4) (stored (Ok 3) (1 ∷ 3 ∷ 6 ∷ 0 ∷ []))
    ∷ pin little [] (on_slice 9 0) (stored (Ok 0) [])
    -- the other two calls refuse a node image alike, ahead of the rules
    ∷ pin (in_node 7 6 (pair 61) little) [] (on_rule 0) (told (Refused 10 0))
    ∷ pin (in_node 3 18 (1 ∷ []) little) [] (on_changes 0 1) (stored (Refused 4 3) (0 ∷ []))
    ∷ []

pub node-trees : Right node_trees
unfolding opened written node_trees little deep
node-trees = by-pinning node_trees refl
