-- What comes of unpacking a node image into lent columns: the answer, and what each column then holds.
use Rattle.std.specs.Prelude.{List, ◌++◌, map, ℕ, length, drop, Result, Ok, Err}
use Rattle.meaning.specs.declared.Node.{Node}
use Rattle.meaning.specs.Reading.{Reading, Accepted}
use Rattle.meaning.specs.declared.Refusal.{Refusal}
use Rattle.meaning.specs.Order.{need, and_then}
use Rattle.meaning.specs.Nodes.{nodes_of, read_nodes}
use Rattle.meaning.specs.Lent.{roomy}
use Rattle.meaning.specs.Answer.{Told}

-- how many records were unpacked, or the refusal
abbrev pub loaded : Reading → ℕ → Result ℕ Refusal
loaded Accepted n = Ok n
loaded (Err why) n = Err why

-- 01's number and values of an answer, told as of a list: 0 with how many records, or 2, refused, with number and place
unfoldable pub tell_loaded : Result ℕ Refusal → Told
tell_loaded (Ok n) = record { outcome = 0; number = 0; place = 0; day = 0; offender = 0; count = n }
tell_loaded (Err why) = record { outcome = 2; number = why.number; place = why.place; day = 0; offender = 0; count = 0 }

-- the image's own refusal, then 12 where one of eight columns of these lengths is too short
unfoldable pub loading : List ℕ → ℕ → ℕ → ℕ → ℕ → ℕ → ℕ → ℕ → ℕ → Result ℕ Refusal
loading image a b c d e f g h =
    loaded (and_then (read_nodes image) (need (roomy (length (nodes_of image)) a b c d e f g h) 12 0)) (length (nodes_of image))

-- a column afterwards: one field of every record and the rest as it was, or all as it was
abbrev pub unpacked : {A : Type 0} → Result ℕ Refusal → (Node → A) → List ℕ → List A → List A
unpacked (Ok n) field image old = map field (nodes_of image) ++ drop n old
unpacked (Err why) field image old = old
