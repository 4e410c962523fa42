-- What a reader should see of texts: what is promised determines the result, the records in the columns are those that the text lists, and so is the image that is written of them; and examples.
use mathlib.Core.Path.{◌≡◌, refl, sym, ap, ◌∙◌}
use mathlib.Core.List.{List, [], ◌∷◌}
use Prim.Native.Nat.{ℕ, ◌≤◌}
use lib.IntN.{pos, negsuc}
use lib.ListN.{take}
use Rattle.std.specs.Prelude.{Ok, Err}
use Rattle.meaning.specs.Block.{limit}
use Rattle.meaning.specs.Nodes.{image_of}
use Rattle.meaning.specs.Lent.{nodes_lent}
use Rattle.meaning.specs.Answer.{write_answer, write_image}
use Rattle.spelling.specs.Spelled.{word}
use Rattle.typed.specs.declared.TypedRecords.{TypedRecords}
use Rattle.typed.specs.Numeral.{digits, digits_at, stands, is_plain, number_at, value_at}
use Rattle.typed.specs.Listing.{Text, line_at, lines_at, text_of}
use Rattle.typed.specs.Entered.{columns_of, Reads}
use Rattle.typed.proofs.Lents.{text-whole, nodes_entered}
use Rattle.typed.proofs.Writes.{written_few, written_image}

-- two results that the promise of `read_text` allows are equal
pub unique : (text : List ℕ) (x y : TypedRecords) → Reads text x → Reads text y → x ≡ y
unique text x y a b =
    let c = a.columns in
    let d = b.columns in
    let answer = a.answer ∙ sym b.answer in
    let kind = c.kind ∙ sym d.kind in
    let vkind = c.vkind ∙ sym d.vkind in
    let name = c.name ∙ sym d.name in
    let parent = c.parent ∙ sym d.parent in
    let begin = c.begin ∙ sym d.begin in
    let end = c.end ∙ sym d.end in
    let value = c.value ∙ sym d.value in
    let item = c.item ∙ sym d.item in
    λ j. record { answer = answer j; kind = kind j; vkind = vkind j; name = name j; parent = parent j; begin = begin j; end = end j; value = value j; item = item j }

module _ (text : List ℕ) (x : TypedRecords) (r : Reads text x) {n : ℕ} (e : x.answer ≡ Ok n) where
  -- the records in the first entries of the columns are those that the text lists
  pub records-listed : n ≤ limit → nodes_lent n (columns_of x) ≡ (text_of text).listed
  records-listed few = nodes_entered (text-whole text (sym r.answer ∙ e) few) r.columns

  -- what is written of them is the image of the records that the text lists
  pub image-listed : (image : List ℕ) {b : ℕ} → write_answer n (columns_of x) image ≡ Ok b → take b (write_image n (columns_of x) image) ≡ image_of (text_of text).listed
  image-listed image w = written_image n (columns_of x) image w ∙ ap image_of (records-listed (written_few n (columns_of x) image w))

-- the answer on a text that is not in the form
abbrev pub wrong : ℕ → Text
wrong k = record { answer = Err (record { line = k }); listed = [] }

-- one that lists no record
abbrev pub counted : ℕ → Text
counted n = record { answer = Ok n; listed = [] }

-- a good text of two records
pub two_records : text_of (word "2\n1 0 1 65535 0 0 0 1\n2 1 0 0 100 500 -2150 4294967295\n")
    ≡ record {
      answer = Ok 2;
      listed = record { kind = 1; vkind = 0; name = 1; parent = 65535; begin = 0; end = 0; value = pos 0; item = 1; spare = 0 }
          ∷ record { kind = 2; vkind = 1; name = 0; parent = 0; begin = 100; end = 500; value = negsuc 2149; item = 4294967295; spare = 0 } ∷ [];
    }
unfolding word digits digits_at stands is_plain number_at value_at line_at lines_at text_of
two_records = refl

-- the least and the largest value
pub extremes : text_of (word "2\n255 255 65535 65535 65535 65535 2147483647 0\n0 0 0 0 0 0 -2147483648 0\n")
    ≡ record {
      answer = Ok 2;
      listed = record { kind = 255; vkind = 255; name = 65535; parent = 65535; begin = 65535; end = 65535; value = pos 2147483647; item = 0; spare = 0 }
          ∷ record { kind = 0; vkind = 0; name = 0; parent = 0; begin = 0; end = 0; value = negsuc 2147483647; item = 0; spare = 0 } ∷ [];
    }
unfolding word digits digits_at stands is_plain number_at value_at line_at lines_at text_of
extremes = refl

-- texts that are not in the form: none; no line feed; a leading zero; minus zero; too large, up and down; two spaces; a line that is missing; one too many; a count that is none
pub not-in-the-form :
    (text_of [] ≡ wrong 1) × (text_of (word "1\n1 0 1 65535 0 0 0 1") ≡ wrong 2) × (text_of (word "1\n1 0 1 65535 0 0 0 01\n") ≡ wrong 2)
    × (text_of (word "1\n1 0 1 65535 0 0 -0 1\n") ≡ wrong 2) × (text_of (word "1\n256 0 1 65535 0 0 0 1\n") ≡ wrong 2)
    × (text_of (word "1\n1 0 1 65535 0 0 -2147483649 1\n") ≡ wrong 2) × (text_of (word "1\n1  0 1 65535 0 0 0 1\n") ≡ wrong 2)
    × (text_of (word "2\n1 0 1 65535 0 0 0 1\n") ≡ wrong 3) × (text_of (word "1\n1 0 1 65535 0 0 0 1\n\n") ≡ wrong 3) × (text_of (word "-1\n") ≡ wrong 1)
unfolding word digits digits_at stands is_plain number_at value_at line_at lines_at text_of
not-in-the-form = (refl, refl, refl, refl, refl, refl, refl, refl, refl, refl)

-- counts after which no line is looked at: none, one too many, and one of more digits than a number has
pub counts_alone :
    (text_of (word "0\nany") ≡ counted 0) × (text_of (word "1001\nany") ≡ counted 1001) × (text_of (word "99999999999999999999999999\n") ≡ counted 4294967296)
unfolding word digits digits_at stands is_plain number_at value_at line_at lines_at text_of
counts_alone = (refl, refl, refl)
