-- The pass over crowds, one step at a time: what it is lent, and what a stretch of ends does to the tallies of the keys.
use Rattle.std.specs.Prelude.{◌≡◌, List, ℕ, ◌+◌, ◌≤◌, ◌<◌, length}
use Rattle.crowds.specs.Crowds.{at}

-- what a column has for the record at position j of an order
abbrev pub by : List ℕ → List ℕ → ℕ → ℕ
by order column j = at column (at order j)

-- the columns have an entry for each of n records, and the tallies one for each of n keys
pub record Room (keys lo hi tally : List ℕ) (n : ℕ) : Type 0 where
  pub in_keys : n ≤ length keys
  pub in_lo : n ≤ length lo
  pub in_hi : n ≤ length hi
  pub in_tally : n ≤ length tally

-- the first n tallies are 0
pub record Cleared (tally : List ℕ) (n : ℕ) : Type 0 where
  pub zero_at : (k : ℕ) → k < n → at tally k ≡ 0

-- a number for each position of the ends and each key below n: it never rises from a position to the next, and it falls by one past an end by
-- `until` of a record that has the key and is present somewhere
pub record Falls (closes keys lo hi : List ℕ) (n until : ℕ) (N : ℕ → ℕ → ℕ) : Type 0 where
  pub same : (v k : ℕ) → v < length closes → k < n → N (v + 1) k ≤ N v k
  pub less : (v k : ℕ) → v < length closes → k < n → by closes hi v ≤ until → by closes lo v < by closes hi v → by closes keys v ≡ k → N (v + 1) k + 1 ≤ N v k

-- what a stretch of ends does, from position j to r: they lie by `until`, no tally rises, and what the tallies were enough for they are enough for
pub record Ended (closes keys lo hi : List ℕ) (n until j r : ℕ) (tally tally' : List ℕ) : Type 0 where
  pub to : r ≤ length closes
  pub by_then : (v : ℕ) → j ≤ v → v < r → by closes hi v ≤ until
  pub no_more : (k : ℕ) → at tally' k ≤ at tally k
  pub enough : (N : ℕ → ℕ → ℕ) → Falls closes keys lo hi n until N → ((k : ℕ) → k < n → N j k ≤ at tally k) → (k : ℕ) → k < n → N r k ≤ at tally' k
