-- How a line of a dictionary is read from a place on, and what comes of all lines.
use Rattle.std.specs.Prelude.{◌≡◌, Bool, true, false, ◌&&◌, ◌||◌, not, cond, List, [], ◌∷◌, ℕ, suc, ◌+◌, ◌%◌, ◌≤◌, eqb, leb, ltb, length, take, drop, Option, Some, None, Result, Ok, Err}
use Rattle.meaning.specs.Walk.{first, on_found}
use Rattle.typed.specs.declared.BadLine.{BadLine}
use Rattle.typed.specs.Numeral.{stands, number_at}
use Rattle.selectors.specs.declared.dictionary.Entry.{Entry}
use Rattle.selectors.specs.Parts.{parts, each, same}
use Rattle.selectors.specs.Profile.{is_first, is_inner}
use Rattle.selectors.specs.Dictionary.{is_entry, name_of, ended, line_of, has, first_bad_line}
use Rattle.selectors.specs.Sieve.{key_of, holds}

-- how many bytes in front of these a name can be made of
unfoldable pub run : List ℕ → ℕ
run [] = 0
run (x ∷ xs) = let rest = suc (run xs) in cond (is_inner x) rest 0

-- these bytes begin as a name does
unfoldable pub begins : List ℕ → Bool
begins [] = false
begins (x ∷ xs) = is_first x

-- a name that ends at `end`, and the number behind it
abbrev pub on_number : ℕ → Option (ℕ × ℕ) → Option Entry
on_number end (Some found) = cond (leb 1 found.0) (Some (record { end = end; number = found.0; next = found.1 })) None
on_number end None = None

-- the line from a place on: where its name ends, its number, and the place behind its line feed
unfoldable pub line_at : List ℕ → ℕ → Option Entry
line_at d at =
    let end = at + run (drop at d) in
    cond (begins (drop at d) && stands d end 32) (on_number end (number_at d (end + 1) 65534 10)) None

-- the first n lines are entries
pub record Entries (d : List ℕ) (n : ℕ) : Type 0 where
  pub many : n ≤ ended d
  pub sound : each is_entry (take n (parts 10 d)) ≡ true

-- a key is of a class: one of so many, told by its remainder
unfoldable pub of_class : ℕ → ℕ → ℕ → Bool
of_class class classes key = eqb (key % classes) class

-- the key of a name passes p, and one of these lines has the name
unfoldable pub again : (ℕ → Bool) → List (List ℕ) → List ℕ → Bool
again p ls name = p (key_of name) && has ls name

-- the key of a line's name, if it passes p, is in the sieve
unfoldable pub sifts : (ℕ → Bool) → List ℕ → List ℕ → Bool
sifts p sieve l = not (p (key_of (name_of l))) || holds sieve (key_of (name_of l))

-- the first n lines are entries, and those keys of their names that pass p are in the sieve
pub record Sifted (p : ℕ → Bool) (d : List ℕ) (n : ℕ) (sieve : List ℕ) : Type 0 where
  pub entries : Entries d n
  pub room : 64 ≤ length sieve
  pub held : each (sifts p sieve) (take n (parts 10 d)) ≡ true

-- the key of a name, if it passes p, is in the sieve, and all that were there still are
pub record Took (p : ℕ → Bool) (name before after : List ℕ) : Type 0 where
  pub size : length after ≡ length before
  pub put : p (key_of name) ≡ true → holds after (key_of name) ≡ true
  pub kept : (k : ℕ) → holds before k ≡ true → holds after k ≡ true

-- like `good_line`, but a name that a line above has counts only where its key passes p
unfoldable pub good_for : (ℕ → Bool) → List ℕ → ℕ → Bool
good_for p d k =
    cond (ltb k (ended d)) (is_entry (line_of d k) && not (again p (take k (parts 10 d)) (name_of (line_of d k)))) (same (line_of d k) [])

-- that a line is bad
abbrev pub bad_at : ℕ → Result ℕ BadLine
bad_at k = Err (record { line = k })

-- what comes of n lines: that there are so many, or the first that is bad
unfoldable pub checked_by : (ℕ → Bool) → ℕ → Result ℕ BadLine
checked_by good n = on_found (first (λ k. not (good k)) 0 (suc n)) bad_at (Ok n)

-- what comes of all lines where only names whose key passes p are compared
unfoldable pub checked_for : (ℕ → Bool) → List ℕ → Result ℕ BadLine
checked_for p d = checked_by (good_for p d) (ended d)

-- of two that came of lines that which is bad, and the lower one if both are
abbrev pub lower : Result ℕ BadLine → Result ℕ BadLine → Result ℕ BadLine
lower (Ok n) b = b
lower (Err i) (Ok n) = Err i
lower (Err i) (Err j) = cond (ltb i.line j.line) (Err i) (Err j)

-- what comes of all lines: how many there are, or the first that is bad
unfoldable pub checked : List ℕ → Result ℕ BadLine
checked d = on_found (first_bad_line d) bad_at (Ok (ended d))
