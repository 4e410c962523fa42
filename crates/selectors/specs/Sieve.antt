-- The sieve: a table in which the keys of names are marked. A key that is not marked is that of no name put in; one that is may be another's.
use Rattle.std.specs.Prelude.{◌≡◌, Bool, true, ◌&&◌, List, [], ◌∷◌, ℕ, ◌+◌, ◌-◌, ◌*◌, ◌%◌, eqb, length, get_or, set}

-- a number made of bytes behind those that made h
unfoldable pub key_from : ℕ → List ℕ → ℕ
key_from h [] = h
key_from h (x ∷ xs) = key_from ((742938285 * h + x) % 2147483647) xs

-- the key of a name
unfoldable pub key_of : List ℕ → ℕ
key_of name = key_from 1000000007 name

-- a place of the table is marked
abbrev pub marked : List ℕ → ℕ → Bool
marked sieve i = eqb (get_or sieve i 0) 1

-- all four places of a key are marked
unfoldable pub holds : List ℕ → ℕ → Bool
holds sieve key =
    marked sieve (key % length sieve) && marked sieve (key % (length sieve - 5)) && marked sieve (key % (length sieve - 11)) && marked sieve (key % (length sieve - 23))

-- the table with the four places of a key marked
unfoldable pub with_key : List ℕ → ℕ → List ℕ
with_key sieve key =
    let n = length sieve in
    set (set (set (set sieve (key % n) 1) (key % (n - 5)) 1) (key % (n - 11)) 1) (key % (n - 23)) 1

-- a key was put in, and all that were there still are
pub record Put (before : List ℕ) (key : ℕ) (after : List ℕ) : Type 0 where
  pub size : length after ≡ length before
  pub put : holds after key ≡ true
  pub kept : (k : ℕ) → holds before k ≡ true → holds after k ≡ true
