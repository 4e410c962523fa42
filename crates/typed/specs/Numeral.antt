-- Numbers in decimal out of a text, which is a list of bytes: the digits from a place on, a number with the byte that ends it, and a value with its sign.
use Rattle.std.specs.Prelude.{Bool, ◌&&◌, ◌||◌, not, cond, List, [], ◌∷◌, ℕ, suc, ◌+◌, ◌-◌, ◌*◌, min, eqb, leb, ltb, ℤ, pos, negsuc, length, drop, Option, Some, None}
use Rattle.meaning.specs.Bytes.{byte}
use Rattle.typed.specs.declared.scan.Digits.{Digits}

-- the codes of 0 to 9
abbrev pub is_digit : ℕ → Bool
is_digit x = leb 48 x && leb x 57

-- what digits spell of which those before x spell v
abbrev pub longer : ℕ → ℕ → ℕ
longer v x = 10 * v + (x - 48)

-- the digits in front of these bytes, of which the first stands at place i and those before it spell v: what all spell, and the place after them
unfoldable pub digits : ℕ → ℕ → List ℕ → Digits
digits v i [] = record { value = v; next = i }
digits v i (x ∷ xs) =
    let rest = digits (longer v x) (suc i) xs in
    cond (is_digit x) rest (record { value = v; next = i })

-- above every number that a column holds
abbrev pub top : ℕ
top = 4294967296

-- the same, and `top` for all that is above
abbrev pub capped : Digits → Digits
capped d = record { value = min d.value top; next = d.next }

-- the digits from a place of a text on
unfoldable pub digits_at : List ℕ → ℕ → Digits
digits_at text at = capped (digits 0 at (drop at text))

-- the text has byte x at this place
unfoldable pub stands : List ℕ → ℕ → ℕ → Bool
stands text at x = ltb at (length text) && eqb (byte text at) x

-- digits from one place to another as a number has them: one or more, and where there are more the first is not 0
unfoldable pub is_plain : List ℕ → ℕ → ℕ → Bool
is_plain text at next = ltb at next && (eqb next (at + 1) || not (stands text at 48))

-- a number of at most `most`, ended by the byte `stop`, and the place after that
unfoldable pub number_at : List ℕ → ℕ → ℕ → ℕ → Option (ℕ × ℕ)
number_at text at most stop =
    let d = digits_at text at in
    cond (stands text d.next stop && (is_plain text at d.next && leb d.value most)) (Some (d.value, d.next + 1)) None

-- a number without a minus
abbrev pub upward : Option (ℕ × ℕ) → Option (ℤ × ℕ)
upward (Some found) = Some (pos found.0, found.1)
upward None = None

-- a number behind a minus: at least 1, and negsuc n is −1 − n
abbrev pub downward : Option (ℕ × ℕ) → Option (ℤ × ℕ)
downward (Some found) = cond (eqb found.0 0) None (Some (negsuc (found.0 - 1), found.1))
downward None = None

-- a value, from −2147483648 to 2147483647, ended by the byte `stop`
unfoldable pub value_at : List ℕ → ℕ → ℕ → Option (ℤ × ℕ)
value_at text at stop =
    cond (stands text at 45) (downward (number_at text (at + 1) 2147483648 stop)) (upward (number_at text at 2147483647 stop))
