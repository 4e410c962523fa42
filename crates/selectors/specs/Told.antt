-- The line on a selector (MEANING 18): the eight numbers of its path and its length, or a refusal; one space parts the fields, and a line feed ends it.
use Rattle.std.specs.Prelude.{List, [], ◌∷◌, ◌++◌, ℕ, Err, Ok, Result}
use Rattle.spelling.specs.Spelled.{word, spaced}
use Rattle.spelling.specs.Lines.{refused_line}
use Rattle.meaning.specs.declared.Refusal.{Refusal}

-- numbers, a space ahead of each
unfoldable pub spaced_all : List ℕ → List ℕ
spaced_all [] = []
spaced_all (x ∷ xs) = spaced x ++ spaced_all xs

unfoldable pub selector_line : Result ℕ Refusal → List ℕ → List ℕ
selector_line (Ok n) numbers = word "path" ++ spaced_all numbers ++ word " length" ++ spaced n ++ word "\n"
selector_line (Err why) numbers = refused_line why.number why.place
