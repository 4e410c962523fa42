-- From where on each record counts, if those of one class count once: from its first place, and from the end of those of its class before it.
use Rattle.std.specs.Prelude.{◌≡◌, Bool, false, List, ℕ, ◌≤◌, ◌<◌, length}
use Rattle.crowds.specs.Crowds.{at}

-- a record of class c that counts at place p
pub record Holder (pairs first hi : List ℕ) (n c p : ℕ) : Type 0 where
  pub who : ℕ
  pub here : who < n
  pub class : at pairs who ≡ c
  pub from : at first who ≤ p
  pub to : p < at hi who

-- n records, each of a class below n or of none: no record counts before its first place; where one of a class is present one counts, and no more than one
pub record CountsOnce (pairs lo hi : List ℕ) (n : ℕ) (first : List ℕ) : Type 0 where
  pub room : n ≤ length first
  pub no_sooner : (x : ℕ) → x < n → at pairs x < n → at lo x ≤ at first x
  pub some : (x p : ℕ) → x < n → at pairs x < n → at lo x ≤ p → p < at hi x → Holder pairs first hi n (at pairs x) p
  pub once : (x y p : ℕ) → x < n → y < n → at pairs x < n → at pairs x ≡ at pairs y → at first x ≤ p → p < at hi x → at first y ≤ p → p < at hi y → x ≡ y

-- every record of the order counts from its first place on
pub record Unmoved (order lo first : List ℕ) : Type 0 where
  pub same : (j : ℕ) → j < length order → at first (at order j) ≡ at lo (at order j)

-- the columns have an entry for each of n records, and the tops one for each of n classes
pub record Rooms (pairs lo hi first top : List ℕ) (n : ℕ) : Type 0 where
  pub in_pairs : n ≤ length pairs
  pub in_lo : n ≤ length lo
  pub in_hi : n ≤ length hi
  pub in_first : n ≤ length first
  pub in_top : n ≤ length top

-- record x of class c, present from a up to b, was given its place, and the top of its class, if it has one, is b or later
pub record Placed (c a b n x : ℕ) (top first top' first' : List ℕ) (raised : Bool) : Type 0 where
  pub others : (y : ℕ) → (y ≡ x → ⊥) → at first' y ≡ at first y
  pub begins : a ≤ at first' x
  pub after : c < n → at top c ≤ at first' x
  pub least : (p : ℕ) → a ≤ p → (c < n → at top c ≤ p) → at first' x ≤ p
  pub stays : raised ≡ false → at first' x ≡ a
  pub no_lower : (d : ℕ) → at top d ≤ at top' d
  pub risen : c < n → b ≤ at top' c
  pub no_higher : (d p : ℕ) → at top d ≤ p → (d ≡ c → b ≤ p) → at top' d ≤ p
