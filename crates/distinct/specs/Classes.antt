-- Classes of records by key and value: what is promised of them, and how they are found key by key along chains.
use Rattle.std.specs.Prelude.{◌≡◌, Bool, List, ℕ, ◌≤◌, ◌<◌, eqb, length}
use Rattle.meaning.specs.Block.{limit}
use Rattle.columns.specs.Chains.{past_last}
use Rattle.crowds.specs.Crowds.{at}

-- keys and values of n records; a value is below n
pub record Valued (keys reps : List ℕ) (n : ℕ) : Type 0 where
  pub few : n ≤ limit
  pub in_keys : n ≤ length keys
  pub in_reps : n ≤ length reps
  pub low : (x : ℕ) → x < n → at reps x < n

-- a class below n for each of n records whose key is below n: two have one class exactly where they have one key and one value
pub record Pairs (keys reps : List ℕ) (n : ℕ) (pairs : List ℕ) : Type 0 where
  pub room : n ≤ length pairs
  pub none : (x : ℕ) → x < n → n ≤ at keys x → at pairs x ≡ limit
  pub low : (x : ℕ) → x < n → at keys x < n → at pairs x < n
  pub same : (x y : ℕ) → x < n → y < n → at keys x < n → at keys x ≡ at keys y → at reps x ≡ at reps y → at pairs x ≡ at pairs y
  pub one_key : (x y : ℕ) → x < n → y < n → at keys x < n → at keys y < n → at pairs x ≡ at pairs y → at keys x ≡ at keys y
  pub one_rep : (x y : ℕ) → x < n → y < n → at keys x < n → at keys y < n → at pairs x ≡ at pairs y → at reps x ≡ at reps y

-- record y has key k
abbrev pub has_key : List ℕ → ℕ → ℕ → Bool
has_key keys k y = eqb (at keys y) k

-- from each key below n the last of n records that has it, and from each such record the one before it of its key; counted from one, 0 for none
pub record Linked (keys : List ℕ) (n : ℕ) (last lower : List ℕ) : Type 0 where
  pub in_last : n ≤ length last
  pub in_lower : n ≤ length lower
  pub ends : (k : ℕ) → k < n → at last k ≡ past_last (has_key keys k) n
  pub steps : (x : ℕ) → x < n → at keys x < n → at lower x ≡ past_last (has_key keys (at keys x)) x

-- record x was given the class r, a record of its key and value: the one that its value was last seen at, where that has both
pub record Classed (keys reps : List ℕ) (n x : ℕ) (whose whose' : List ℕ) (r : ℕ) : Type 0 where
  pub low : r < n
  pub key : at keys r ≡ at keys x
  pub rep : at reps r ≡ at reps x
  pub held : at whose' (at reps x) ≡ r
  pub others : (c : ℕ) → (c ≡ at reps x → ⊥) → at whose' c ≡ at whose c
  pub found : (y : ℕ) → y < n → at whose (at reps x) ≡ y → at keys y ≡ at keys x → at reps y ≡ at reps x → r ≡ y

-- record x is done: its key is below k, or is k and x is not below `past`
pub record Done (keys : List ℕ) (k past x : ℕ) : Type 0 where
  pub key : at keys x ≤ k
  pub from : at keys x ≡ k → past ≤ x

-- of n records those that are done have their classes, which are records; of key k, `whose` has the class that each value was last seen at
pub record Stand (keys reps : List ℕ) (n k past : ℕ) (whose pair : List ℕ) : Type 0 where
  pub none : (x : ℕ) → x < n → n ≤ at keys x → at pair x ≡ limit
  pub low : (x : ℕ) → x < n → Done keys k past x → at pair x < n
  pub key : (x : ℕ) → x < n → Done keys k past x → at keys (at pair x) ≡ at keys x
  pub rep : (x : ℕ) → x < n → Done keys k past x → at reps (at pair x) ≡ at reps x
  pub same : (x y : ℕ) → x < n → y < n → Done keys k past x → Done keys k past y → at keys x ≡ at keys y → at reps x ≡ at reps y → at pair x ≡ at pair y
  pub held : (x : ℕ) → x < n → at keys x ≡ k → past ≤ x → at whose (at reps x) ≡ at pair x
