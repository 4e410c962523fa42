-- Blocks of 512 bytes and the image they make up (MEANING 2): check, header, zeros, refusals 1 to 4 or 21 to 24, and the image that records are written to (MEANING 17).
use Rattle.std.specs.Prelude.{ℕ, suc, ◌+◌, ◌-◌, ◌*◌, ◌/◌, ◌%◌, ◌^◌, Bool, true, ◌&&◌, cond, List, [], ◌∷◌, ◌++◌, eqb, leb, length, take, drop, replicate}
use Rattle.meaning.specs.declared.Form.{Form}
use Rattle.meaning.specs.Reading.{Reading}
use Rattle.meaning.specs.Walk.{listed}
use Rattle.meaning.specs.Bytes.{byte, two, four, pair, quad}
use Rattle.meaning.specs.Order.{need, and_then, Test}

-- the two kinds of image
abbrev pub node_form : Form
node_form = record { kind = 1; size = 20; each = 25; most = 40; base = 0 }

abbrev pub rule_form : Form
rule_form = record { kind = 2; size = 50; each = 10; most = 10; base = 20 }

-- the most records of a document: full blocks, as many as an image can have
abbrev pub limit : ℕ
limit = node_form.each * node_form.most

-- the old check times 33 plus the byte, modulo 2^32
abbrev pub check_step : ℕ → ℕ → ℕ
check_step c x = (c * 33 + x) % 2 ^ 32

unfoldable pub check_from : ℕ → List ℕ → ℕ
check_from c [] = c
check_from c (x ∷ xs) = check_from (check_step c x) xs

unfoldable pub check : List ℕ → ℕ
check s = check_from 5381 s

unfoldable pub all_zero : List ℕ → Bool
all_zero [] = true
all_zero (x ∷ xs) = eqb x 0 && all_zero xs

abbrev pub blocks : List ℕ → ℕ
blocks image = length image / 512

-- the 512 bytes of block b
abbrev pub block_at : List ℕ → ℕ → List ℕ
block_at image b = take 512 (drop (512 * b) image)

-- the records that a block says it has
abbrev pub counted : List ℕ → ℕ
counted s = two s 4

-- where record k of a block starts
abbrev pub record_at : Form → ℕ → ℕ
record_at form k = 8 + form.size * k

-- 2: the stored check is that of the bytes before it
unfoldable pub check_fits : List ℕ → Bool
check_fits s = eqb (four s 508) (check (take 508 s))

-- 3: every block but the last is full, the last has at least one record
unfoldable pub header_fits : Form → Bool → ℕ → List ℕ → Bool
header_fits form last b s =
    eqb (four s 0) b && eqb (byte s 6) form.kind && eqb (byte s 7) 0
    && leb (cond last 1 form.each) (counted s) && leb (counted s) form.each

-- 4: zeros from the last record to the check
unfoldable pub rest_zero : Form → List ℕ → Bool
rest_zero form s = all_zero (take (508 - record_at form (counted s)) (drop (record_at form (counted s)) s))

-- block b of an image, its bytes s
unfoldable pub read_block : Form → Bool → ℕ → List ℕ → Reading
read_block form last b s =
    and_then (need (check_fits s) (form.base + 2) b)
    (and_then (need (header_fits form last b s) (form.base + 3) b) (need (rest_zero form s) (form.base + 4) (form.each * b + counted s)))

-- 1: one block or more, all whole, not too many
unfoldable pub size_fits : Form → List ℕ → Bool
size_fits form image = leb 1 (length image) && eqb (length image % 512) 0 && leb (blocks image) form.most

unfoldable pub image_tests : Form → List ℕ → List Test
image_tests form image =
    record { places = 1; at = need (size_fits form image) (form.base + 1) }
    ∷ record { places = blocks image; at = λ b. read_block form (eqb (suc b) (blocks image)) b (block_at image b) }
    ∷ []

-- how many records an image of sound blocks has: full blocks, then what the last one says
unfoldable pub records : Form → List ℕ → ℕ
records form image = form.each * (blocks image - 1) + counted (block_at image (blocks image - 1))

-- the bytes of record i of an image
unfoldable pub record_of : Form → List ℕ → ℕ → List ℕ
record_of form image i = take form.size (drop (record_at form (i % form.each)) (block_at image (i / form.each)))

-- Writing: one stretch of bytes after the other
unfoldable pub joined : List (List ℕ) → List ℕ
joined [] = []
joined (s ∷ rest) = s ++ joined rest

-- zeros up to n bytes
unfoldable pub padded : ℕ → List ℕ → List ℕ
padded n s = s ++ replicate (n - length s) 0

-- bytes, and their check after them
unfoldable pub sealed : List ℕ → List ℕ
sealed s = s ++ quad (check s)

-- block b, with the bytes of its records
unfoldable pub block_of : Form → ℕ → List (List ℕ) → List ℕ
block_of form b rs = sealed (padded 508 (quad b ++ (pair (length rs) ++ (form.kind ∷ 0 ∷ joined rs))))

-- how many blocks n records take
unfoldable pub blocks_for : Form → ℕ → ℕ
blocks_for form n = (n + (form.each - 1)) / form.each

-- the records of block b: every block but the last is full
unfoldable pub share : Form → ℕ → List (List ℕ) → List (List ℕ)
share form b rs = take form.each (drop (form.each * b) rs)

-- the blocks of these records, one after the other
unfoldable pub blocks_of : Form → List (List ℕ) → List ℕ
blocks_of form rs = joined (listed (λ b. block_of form b (share form b rs)) 0 (blocks_for form (length rs)))
