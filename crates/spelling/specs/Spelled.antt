-- Text as bytes: words by their characters' codes, and numbers in decimal.
use Rattle.std.specs.Prelude.{cond, List, [], ◌∷◌, ◌++◌, ℕ, zero, suc, ◌+◌, ◌/◌, ◌%◌, ltb}
use Prim.Native.Char.{code}
use Prim.Native.String.{String, [] as end, ◌∷◌ as ◌then◌}

-- the codes of a text's characters
unfoldable pub word : String → List ℕ
word end = []
word (c then s) = code c ∷ word s

-- the last k digits of n, without zeros in front
unfoldable pub digits_of : ℕ → ℕ → List ℕ
digits_of zero n = []
digits_of (suc k) n = let front = digits_of k (n / 10) in cond (ltb n 10) [] front ++ ((48 + n % 10) ∷ [])

-- a number in decimal: one of 64 bits has at most twenty digits
unfoldable pub decimal : ℕ → List ℕ
decimal n = digits_of 20 n

-- a space and a number
abbrev pub spaced : ℕ → List ℕ
spaced n = 32 ∷ decimal n
