-- Numbers in bytes, little-endian (MEANING 2): unsigned of one, two and four bytes, read and written, the signed reading of four, equality of signed numbers.
use Rattle.std.specs.Prelude.{ℕ, ◌+◌, ◌-◌, ◌*◌, ◌/◌, ◌%◌, Bool, false, cond, List, [], ◌∷◌, ℤ, pos, negsuc, ltb, eqb, get_or}

abbrev pub byte : List ℕ → ℕ → ℕ
byte s at = get_or s at 0

abbrev pub two : List ℕ → ℕ → ℕ
two s at = byte s at + 256 * byte s (at + 1)

abbrev pub four : List ℕ → ℕ → ℕ
four s at = byte s at + 256 * byte s (at + 1) + 65536 * byte s (at + 2) + 16777216 * byte s (at + 3)

-- two's complement; negsuc n is −1 − n
unfoldable pub signed : ℕ → ℤ
signed x = cond (ltb x 2147483648) (pos x) (negsuc (4294967295 - x))

abbrev pub eq_z : ℤ → ℤ → Bool
eq_z (pos a) (pos b) = eqb a b
eq_z (pos a) (negsuc b) = false
eq_z (negsuc a) (pos b) = false
eq_z (negsuc a) (negsuc b) = eqb a b

-- the bytes of a number, the lowest first: two of one below 2^16, four of one below 2^32
abbrev pub pair : ℕ → List ℕ
pair x = x % 256 ∷ x / 256 ∷ []

abbrev pub quad : ℕ → List ℕ
quad x = x % 256 ∷ x / 256 % 256 ∷ x / 65536 % 256 ∷ x / 16777216 ∷ []

-- the number that has the bits of a signed one, in two's complement
unfoldable pub bits : ℤ → ℕ
bits (pos x) = x
bits (negsuc x) = 4294967295 - x
