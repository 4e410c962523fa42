-- The pass over levels: on which places at least so many records of one key are present, and what one record that joins or leaves does.
use Rattle.std.specs.Prelude.{◌≡◌, Bool, true, false, ◌⊎◌, List, ℕ, ◌+◌, ◌-◌, ◌≤◌, ◌<◌, length}
use Rattle.crowds.specs.Crowds.{at, present}
use Rattle.crowds.specs.Tallies.{by}

-- at each place from the lo of a record up to its until, at least `least` of n records have its key and are present
pub record Levels (keys lo hi : List ℕ) (n least : ℕ) (until : List ℕ) : Type 0 where
  pub held : (x p : ℕ) → x < n → at lo x ≤ p → p < at until x → least ≤ present keys lo hi n (at keys x) p

-- whether the record at position i of the order, if there is one, begins before place h
pub record First (order lo : List ℕ) (i h : ℕ) (r : Bool) : Type 0 where
  pub before : r ≡ true → (i < length order) × (by order lo i < h)
  pub after : r ≡ false → i < length order → h ≤ by order lo i

-- record x has key k and is present somewhere
pub record Takes (keys lo hi : List ℕ) (x k : ℕ) : Type 0 where
  pub key : at keys x ≡ k
  pub some : at lo x < at hi x

-- what is asked where record x joins: the tally of its key can rise
pub record Joins (keys lo hi : List ℕ) (n x : ℕ) (tally : List ℕ) : Type 0 where
  pub fits : x < n
  pub rises : (k : ℕ) → k < n → Takes keys lo hi x k → at tally k < n

-- record x joined: the tally of its key is one more at most, no other rises, and a key that has come to `least` was opened by x
pub record Joined (keys lo hi : List ℕ) (least x : ℕ) (tally opener tally' opener' : List ℕ) : Type 0 where
  pub risen : (k : ℕ) → (at tally' k ≤ at tally k) ⊎ (Takes keys lo hi x k × (at tally' k ≤ at tally k + 1))
  pub opened : (k : ℕ) → least ≤ at tally' k → ((least ≤ at tally k) × (at opener' k ≡ at opener k)) ⊎ ((at keys x ≡ k) × (at opener' k ≡ x))

-- what is asked where record y leaves: a key that has come to `least` was opened by one of n records
pub record Leaves (keys : List ℕ) (n least y : ℕ) (tally opener : List ℕ) : Type 0 where
  pub fits : y < n
  pub opened : (k : ℕ) → k < n → at keys y ≡ k → least ≤ at tally k → at opener k < n

-- record y left: no tally rises, that of its key is one less, and if it had come to `least` its opener is told the end of y
pub record Left (keys lo hi : List ℕ) (n least y : ℕ) (tally opener until tally' until' : List ℕ) : Type 0 where
  pub no_more : (k : ℕ) → at tally' k ≤ at tally k
  pub taken : (k : ℕ) → k < n → Takes keys lo hi y k → at tally' k ≤ at tally k - 1
  pub told : (x : ℕ) → (at until' x ≡ at until x) ⊎ ((k : ℕ) × (k < n) × (least ≤ at tally k) × (at opener k ≡ x) × (at until' x ≡ at hi y))
