-- Node images (MEANING 3, 4): the record's table, the tests 4 to 10 on a document, what comes of reading an image, and the image of records (MEANING 17).
use Rattle.std.specs.Prelude.{ℕ, zero, suc, ◌+◌, Bool, ◌&&◌, ◌||◌, not, cond, List, [], ◌∷◌, ◌++◌, map, pos, leb, ltb, eqb}
use Rattle.std.specs.Int.Signed.{le_z}
use Rattle.meaning.specs.declared.Node.{Node}
use Rattle.meaning.specs.Reading.{Reading}
use Rattle.meaning.specs.Walk.{any, listed}
use Rattle.meaning.specs.Bytes.{byte, two, four, signed, eq_z, pair, quad, bits}
use Rattle.meaning.specs.Order.{need, and_then, Test, in_order}
use Rattle.meaning.specs.Block.{node_form, image_tests, records, record_of, blocks_of}
use Rattle.meaning.specs.Document.{Doc, of_nodes, node, is_item, is_version, version_of, above}

-- the fields of a record's 20 bytes
unfoldable pub node_in : List ℕ → Node
node_in s =
    record { kind = byte s 0; vkind = byte s 1; name = two s 2; parent = two s 4; begin = two s 6; end = two s 8; value = signed (four s 10); item = four s 14; spare = two s 18 }

-- the records of an image, and the document they make up
unfoldable pub nodes_of : List ℕ → List Node
nodes_of image = listed (λ i. node_in (record_of node_form image i)) 0 (records node_form image)

unfoldable pub doc_of : List ℕ → Doc
doc_of image = of_nodes (nodes_of image)

-- the 20 bytes of a record
unfoldable pub node_bytes : Node → List ℕ
node_bytes n =
    n.kind ∷ n.vkind
    ∷ (pair n.name ++ (pair n.parent ++ (pair n.begin ++ (pair n.end
    ++ (quad (bits n.value) ++ (quad n.item ++ pair n.spare))))))

-- THE IMAGE of these records
unfoldable pub image_of : List Node → List ℕ
image_of ns = blocks_of node_form (map node_bytes ns)

-- a period lies within days 0 to 36,524
abbrev pub is_period : ℕ → ℕ → Bool
is_period b e = ltb b e && leb e 36525

-- 5: the table's column for an item, the parent apart
unfoldable pub item_fields : Node → Bool
item_fields n =
    eqb n.kind 1 && eqb n.vkind 0 && leb 1 n.name && leb n.name 65534 && eqb n.begin 0 && eqb n.end 0
    && eq_z n.value (pos 0) && leb 1 n.item

-- 5: the table's column for a version
unfoldable pub version_fields : Node → Bool
version_fields n =
    eqb n.kind 2 && leb n.vkind 3 && eqb n.name 0 && is_period n.begin n.end
    && (eqb n.vkind 1 || eqb n.vkind 2 || eq_z n.value (pos 0)) && (not (eqb n.vkind 2) || le_z (pos 0) n.value) && eqb n.item 0

unfoldable pub node_fields : Node → Bool
node_fields n = item_fields n || version_fields n

-- 6: record 0 is an item with parent 65,535; a later record's parent is lower, a version's an item and an item's a version
unfoldable pub parent_fits : Doc → ℕ → Bool
parent_fits doc zero = is_item doc 0 && eqb (doc.parent 0) 65535
parent_fits doc (suc k) =
    let i = suc k in
    ltb (doc.parent i) i
    && ((is_item doc i && is_version doc (doc.parent i)) || (is_version doc i && is_item doc (doc.parent i)))

-- the items on the way from record i up to the root, both counted, in at most n steps
unfoldable pub items_up : Doc → ℕ → ℕ → ℕ
items_up doc zero i = 0
items_up doc (suc n) i = let rest = items_up doc n (doc.parent i) in cond (is_item doc i) 1 0 + cond (eqb i 0) 0 rest

unfoldable pub depth : Doc → ℕ → ℕ
depth doc i = items_up doc (suc i) i

-- 8: at most this many items stand on the way from the root to any item
abbrev pub deepest : ℕ
deepest = 8

-- record by record 4, 5, 6, 8
unfoldable pub read_record : Doc → ℕ → Reading
read_record doc i =
    and_then (need (eqb (doc.spare i) 0) 4 i)
    (and_then (need (node_fields (node doc i)) 5 i) (and_then (need (parent_fits doc i) 6 i) (need (leb (depth doc i) deepest) 8 i)))

-- 7: version v begins before a lower version of its item record ends
unfoldable pub early : Doc → ℕ → Bool
early doc v = any (λ u. version_of doc (doc.parent v) u && ltb (doc.begin v) (doc.end u)) 0 v

-- 7: version v of an item below the root leaves the period of the version in which that item stands
unfoldable pub leaves : Doc → ℕ → Bool
leaves doc v =
    not (eqb (doc.parent v) 0)
    && (ltb (doc.begin v) (doc.begin (above doc v)) || ltb (doc.end (above doc v)) (doc.end v))

unfoldable pub misplaced : Doc → ℕ → Bool
misplaced doc v = is_version doc v && (early doc v || leaves doc v)

-- versions u and v share a day
unfoldable pub share_day : Doc → ℕ → ℕ → Bool
share_day doc u v = ltb (doc.begin u) (doc.end v) && ltb (doc.begin v) (doc.end u)

-- some version of item j shares a day with one of item i
unfoldable pub overlap : Doc → ℕ → ℕ → Bool
overlap doc i j = any (λ u. version_of doc j u && any (λ v. version_of doc i v && share_day doc u v) 0 doc.size) 0 doc.size

-- 9: item i has the number of item j, and another name or a shared day
unfoldable pub clash : Doc → ℕ → ℕ → Bool
clash doc i j = is_item doc j && eqb (doc.item j) (doc.item i) && (not (eqb (doc.name j) (doc.name i)) || overlap doc i j)

unfoldable pub clashes : Doc → ℕ → Bool
clashes doc i = is_item doc i && any (clash doc i) 0 i

-- 10: the root's versions among n records from i on each begin where the last ended; none yet where the last end is 0
unfoldable pub whole_from : Doc → ℕ → ℕ → ℕ → Bool
whole_from doc last i zero = ltb 0 last
whole_from doc last i (suc n) =
    let rest = whole_from doc last (suc i) n in
    let on = (eqb last 0 || eqb (doc.begin i) last) && whole_from doc (doc.end i) (suc i) n in
    cond (version_of doc 0 i) on rest

unfoldable pub whole : Doc → Bool
whole doc = whole_from doc 0 0 doc.size

unfoldable pub document_tests : Doc → List Test
document_tests doc =
    record { places = doc.size; at = read_record doc }
    ∷ record { places = doc.size; at = λ i. need (not (misplaced doc i)) 7 i }
    ∷ record { places = doc.size; at = λ i. need (not (clashes doc i)) 9 i }
    ∷ record { places = 1; at = need (whole doc) 10 }
    ∷ []

-- what comes of a document, from 4 within a record on
unfoldable pub accept : Doc → Reading
accept doc = in_order (document_tests doc)

-- what comes of the bytes of a node image
unfoldable pub read_nodes : List ℕ → Reading
read_nodes image = and_then (in_order (image_tests node_form image)) (accept (doc_of image))
