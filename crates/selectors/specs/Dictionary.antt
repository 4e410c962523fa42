-- The dictionary (MEANING 18): lines of a name, one space and a number, each ended by a line feed, no name twice.
use Rattle.std.specs.Prelude.{Bool, false, ◌&&◌, ◌||◌, not, cond, List, [], ◌∷◌, ℕ, suc, eqb, leb, ltb, length, take, get_or}
use Rattle.meaning.specs.Walk.{first, Found}
use Rattle.typed.specs.Numeral.{is_digit, longer}
use Rattle.selectors.specs.Parts.{up_to, later, parts, each, same}
use Rattle.selectors.specs.Profile.{is_name}

-- what digits spell in decimal, of which those ahead of them spell v
unfoldable pub spelt : ℕ → List ℕ → ℕ
spelt v [] = v
spelt v (x ∷ xs) = spelt (longer v x) xs

-- a decimal number 1 to 65,534 without leading zeros
unfoldable pub is_number : List ℕ → Bool
is_number [] = false
is_number (x ∷ xs) = not (eqb x 48) && each is_digit (x ∷ xs) && leb 1 (spelt 0 (x ∷ xs)) && leb (spelt 0 (x ∷ xs)) 65534

-- a name and a number
unfoldable pub is_pair : List (List ℕ) → Bool
is_pair [] = false
is_pair (name ∷ []) = false
is_pair (name ∷ number ∷ []) = is_name name && is_number number
is_pair (name ∷ number ∷ more ∷ rest) = false

-- a line that has one space, between a name and a number
unfoldable pub is_entry : List ℕ → Bool
is_entry line = is_pair (parts 32 line)

abbrev pub name_of : List ℕ → List ℕ
name_of line = up_to 32 line

unfoldable pub number_of : List ℕ → ℕ
number_of line = spelt 0 (get_or (parts 32 line) 1 [])

-- how many lines are ended by a line feed
abbrev pub ended : List ℕ → ℕ
ended d = length (later 10 d)

-- these lines, in order
unfoldable pub lines : List ℕ → List (List ℕ)
lines d = take (ended d) (parts 10 d)

-- line k; what stands behind the last line feed is the line after the last
abbrev pub line_of : List ℕ → ℕ → List ℕ
line_of d k = get_or (parts 10 d) k []

-- some line has this name
unfoldable pub has : List (List ℕ) → List ℕ → Bool
has [] name = false
has (l ∷ ls) name = let rest = has ls name in same (name_of l) name || rest

-- the number that the first line of this name gives it
unfoldable pub number_in : List (List ℕ) → List ℕ → ℕ
number_in [] name = 0
number_in (l ∷ ls) name = let rest = number_in ls name in cond (same (name_of l) name) (number_of l) rest

-- line k is an entry whose name no line above it has; behind the last line feed stands nothing
unfoldable pub good_line : List ℕ → ℕ → Bool
good_line d k =
    cond (ltb k (ended d)) (is_entry (line_of d k) && not (has (take k (parts 10 d)) (name_of (line_of d k)))) (same (line_of d k) [])

-- 31: the first bad line, from 0
unfoldable pub first_bad_line : List ℕ → Found
first_bad_line d = first (λ k. not (good_line d k)) 0 (suc (ended d))
