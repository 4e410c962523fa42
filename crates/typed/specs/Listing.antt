-- A text that lists records: how many there are on the first line, then a line for each, with its eight numbers parted by one space. A line feed ends each line.
use Rattle.std.specs.Prelude.{◌&&◌, cond, List, [], ◌∷◌, ℕ, zero, suc, eqb, leb, ℤ, length, Option, Some, None, Result, Ok, Err}
use Rattle.meaning.specs.declared.Node.{Node}
use Rattle.meaning.specs.Block.{limit}
use Rattle.typed.specs.declared.BadLine.{BadLine}
use Rattle.typed.specs.Numeral.{top, number_at, value_at}

-- the rest of a line after a number, where there is one
abbrev pub on_number : Option (ℕ × ℕ) → (ℕ → ℕ → Option (Node × ℕ)) → Option (Node × ℕ)
on_number (Some found) rest = rest found.0 found.1
on_number None rest = None

-- the rest of a line after a value, where there is one
abbrev pub on_value : Option (ℤ × ℕ) → (ℤ → ℕ → Option (Node × ℕ)) → Option (Node × ℕ)
on_value (Some found) rest = rest found.0 found.1
on_value None rest = None

-- the line of a record from a place on, and the place after it
unfoldable pub line_at : List ℕ → ℕ → Option (Node × ℕ)
line_at text at =
    on_number (number_at text at 255 32) (λ kind afterKind.
    on_number (number_at text afterKind 255 32) (λ vkind afterVkind.
    on_number (number_at text afterVkind 65535 32) (λ name afterName.
    on_number (number_at text afterName 65535 32) (λ parent afterParent.
    on_number (number_at text afterParent 65535 32) (λ begin afterBegin.
    on_number (number_at text afterBegin 65535 32) (λ end after_end.
    on_value (value_at text after_end 32) (λ value afterValue.
    on_number (number_at text afterValue 4294967295 10) (λ item next.
    Some (record { kind = kind; vkind = vkind; name = name; parent = parent; begin = begin; end = end; value = value; item = item; spare = 0 }, next)))))))))

-- what comes of lines: their records, or the number of the first that is not in the form
pub data Lines : Type 0 where
  records : List Node → Lines
  bad : ℕ → Lines

-- a record before those of the lines after its own
abbrev pub before : Node → Lines → Lines
before node (records rest) = records (node ∷ rest)
before node (bad k) = bad k

-- the lines after line k, where that has a record
abbrev pub on_line : Option (Node × ℕ) → ℕ → (Node → ℕ → Lines) → Lines
on_line (Some found) k rest = rest found.0 found.1
on_line None k rest = bad k

-- n lines of records from a place on, the first of them line k, and then the end of the text
unfoldable pub lines_at : List ℕ → ℕ → ℕ → ℕ → Lines
lines_at text at k zero = cond (eqb at (length text)) (records []) (bad k)
lines_at text at k (suc n) = on_line (line_at text at) k (λ node next. before node (lines_at text next (suc k) n))

-- what comes of a text: the answer, and the records that it lists
pub record Text : Type 0 where
  pub answer : Result ℕ BadLine
  pub listed : List Node

-- what comes of the lines of n records
abbrev pub told : ℕ → Lines → Text
told n (records ns) = record { answer = Ok n; listed = ns }
told n (bad k) = record { answer = Err (record { line = k }); listed = [] }

-- what comes of a text after its first line: a count of 0 or above the limit is told, and the lines after it are not looked at
abbrev pub on_count : List ℕ → Option (ℕ × ℕ) → Text
on_count text (Some found) =
    let n = found.0 in
    cond (leb 1 n && leb n limit) (told n (lines_at text found.1 2 n)) (record { answer = Ok n; listed = [] })
on_count text None = record { answer = Err (record { line = 1 }); listed = [] }

-- WHAT COMES OF A TEXT; a count above `top` is told as `top`
unfoldable pub text_of : List ℕ → Text
text_of text = on_count text (number_at text 0 top 10)
