-- Pinned examples of writing: the images of records, what comes of lent columns, what the call answers and what the lent image then holds.
use mathlib.Core.Path.{◌≡◌, refl}
use mathlib.Core.Bool.{cond}
use mathlib.Core.List.{List, [], ◌∷◌, ◌++◌, map}
use Prim.Native.Nat.{ℕ, ◌-◌}
use lib.IntN.{negsuc}
use lib.Dec.{eqb}
use lib.ListN.{length, take, replicate}
use Rattle.meaning.specs.declared.Node.{Node}
use Rattle.meaning.specs.Reading.{Accepted, Refused}
use Rattle.std.specs.Prelude.{Ok}
use Rattle.meaning.specs.Block.{rule_form, blocks_of}
use Rattle.meaning.specs.Nodes.{node_bytes, image_of}
use Rattle.meaning.specs.Lent.{Lent, lent, nodes_lent, read_lent}
use Rattle.meaning.specs.Answer.{output_after, write_answer, write_image, tell_output}
use Rattle.meaning.proofs.Opened.{opened}
use Rattle.meaning.proofs.ImageBytes.{bank_nodes}
use Rattle.meaning.proofs.Writing.{item, bare, rule, nodes, written}
use Rattle.meaning.proofs.Examples.{bank, tells}
use Rattle.meaning.proofs.PinnedImages.{lone, items, full_block, last_block, plain, ten_rules, last_rule}

-- a record whose bytes are all different; it could not be accepted
abbrev spread : ℕ → Node
spread spare =
    record { kind = 1; vkind = 2; name = 1027; parent = 1541; begin = 2055; end = 2569; value = negsuc 1911747572; item = 303108111; spare = spare }

-- each field at its place, the lowest byte first, a value below 0 by the bits of two's complement
pub record_bytes : node_bytes (spread 5139)
    ≡ (1 ∷ 2 ∷ 3 ∷ 4 ∷ 5 ∷ 6 ∷ 7 ∷ 8 ∷ 9 ∷ 10 ∷ 11 ∷ 12 ∷ 13 ∷ 142 ∷ 15 ∷ 16 ∷ 17 ∷ 18 ∷ 19 ∷ 20 ∷ [])
unfolding written
record_bytes = refl

-- the image of 01's bank, byte for byte
pub bank_image : image_of bank ≡ bank_nodes
unfolding opened written bank_nodes bank
bank_image = refl

-- 25 records make one block, and one record more makes two
pub one_block : image_of (item 1 65535 1 ∷ bare 0 0 10 ∷ items 2 23) ≡ full_block
unfolding opened written items full_block
one_block = refl

pub two_blocks : image_of (item 1 65535 1 ∷ bare 0 0 10 ∷ (items 2 23 ++ (bare 2 3 4 ∷ []))) ≡ full_block ++ last_block
unfolding opened written items full_block last_block
two_blocks = refl

-- so do ten rules, and one more
pub two-tables : blocks_of rule_form (replicate 10 plain ++ (rule 2 0 (1 ∷ []) 0 ∷ [])) ≡ ten_rules ++ last_rule
unfolding opened written plain ten_rules last_rule
two-tables = refl

-- column k of these records, without its last entry where k is j
abbrev column : {A : Type 0} → ℕ → ℕ → List Node → (Node → A) → List A
column k j ns field = map field (cond (eqb k j) (take (length ns - 1) ns) ns)

-- these records in columns 0 to 7, of which column j is short; none is for 8
abbrev short : ℕ → List Node → Lent
short j ns =
    lent (column 0 j ns (λ n. n.kind)) (column 1 j ns (λ n. n.vkind)) (column 2 j ns (λ n. n.name)) (column 3 j ns (λ n. n.parent)) (column 4 j ns (λ n. n.begin)) (column 5 j ns (λ n. n.end)) (column 6 j ns (λ n. n.value)) (column 7 j ns (λ n. n.item))

-- a third record, whose fields are refused with 5, and one that begins before another ended, refused with 7
abbrev faulty : List Node
faulty = lone ++ (spread 0 ∷ [])

abbrev early : List Node
early = lone ++ (bare 0 10 20 ∷ [])

-- the records of columns are taken from the first on, each field from its own
pub columns-held : nodes_lent 2 (short 8 (bare 7 8 9 ∷ spread 0 ∷ lone)) ≡ (bare 7 8 9 ∷ spread 0 ∷ [])
unfolding opened lone
columns-held = refl

-- counts of none and too many, ahead of short columns, and the greatest count; each column short, ahead of the records; faults; columns as long as the count and longer
pub lent-examples :
    (read_lent 0 (short 8 faulty)
    ∷ read_lent 1001 (short 8 faulty)
    ∷ read_lent 1000 (short 8 faulty)
    ∷ (map (λ j. read_lent 3 (short j faulty)) (0 ∷ 1 ∷ 2 ∷ 3 ∷ 4 ∷ 5 ∷ 6 ∷ 7 ∷ 8 ∷ [])
    ++ (read_lent 3 (short 8 early) ∷ read_lent 2 (short 8 lone) ∷ read_lent 2 (short 8 faulty) ∷ [])))
    ≡ (Refused 1 0 ∷ Refused 1 0 ∷ Refused 12 0
    ∷ (replicate 8 (Refused 12 0) ++ (Refused 5 2 ∷ Refused 7 2 ∷ Accepted ∷ Accepted ∷ [])))
unfolding opened lone
lent-examples = refl

-- n bytes of a lent image, as it was
abbrev unwritten : ℕ → List ℕ
unwritten n = replicate n 165

-- an image just long enough, one longer, one a byte short; behind 7, a short column and a count of none an image's 12 does not show; the bytes told are those counted
pub answer-examples :
    (write_answer 2 (short 8 lone) (unwritten 512)
    ∷ write_answer 2 (short 8 lone) (unwritten 515)
    ∷ write_answer 2 (short 8 lone) (unwritten 511)
    ∷ write_answer 3 (short 8 early) (unwritten 2)
    ∷ write_answer 3 (short 3 early) (unwritten 512)
    ∷ write_answer 0 (short 8 lone) []
    ∷ output_after Accepted 1024
    ∷ [])
    ≡ (Ok 512 ∷ Ok 512 ∷ Refused 12 0 ∷ Refused 7 2 ∷ Refused 12 0 ∷ Refused 1 0 ∷ Ok 1024 ∷ [])
unfolding opened written lone
answer-examples = refl

-- the image is written, what lies past it stays, and so does all where the call refuses
pub image-examples :
    (write_image 2 (short 8 lone) (unwritten 512)
    ∷ write_image 2 (short 8 lone) (unwritten 515)
    ∷ write_image 2 (short 8 lone) (unwritten 511)
    ∷ write_image 3 (short 8 early) (unwritten 513)
    ∷ [])
    ≡ (nodes lone ∷ (nodes lone ++ unwritten 3) ∷ unwritten 511 ∷ unwritten 513 ∷ [])
unfolding opened written lone
image-examples = refl

-- the two answers in 01's numbers
pub told-outputs : (tell_output (Ok 512) ∷ tell_output (Refused 7 5) ∷ []) ≡ (tells 0 0 0 0 0 512 ∷ tells 2 7 5 0 0 0 ∷ [])
unfolding opened
told-outputs = refl
