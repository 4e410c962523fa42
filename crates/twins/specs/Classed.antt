-- Numbers, then names: what the pass over the items works out.
use Rattle.std.specs.Prelude.{◌≡◌, List, ℕ, ◌≤◌, ◌<◌, length, get_or}

-- the first n entries are their own places
pub record OwnPlaces (own : List ℕ) (n : ℕ) : Type 0 where
  pub room : n ≤ length own
  pub at : (k : ℕ) → k < n → get_or own k 0 ≡ k

-- items i and j have one number
pub record OneNumber (kinds items : List ℕ) (i j : ℕ) : Type 0 where
  pub item : get_or kinds i 0 ≡ 1
  pub other : get_or kinds j 0 ≡ 1
  pub number : get_or items i 0 ≡ get_or items j 0

-- below m items of one number have one class and one name; no record has a class above itself
pub record Classed (kinds names items classes : List ℕ) (m : ℕ) : Type 0 where
  pub few : m ≤ length kinds
  pub room : length kinds ≤ length classes
  pub low : (i : ℕ) → i < length kinds → get_or classes i 0 ≤ i
  pub class : (i j : ℕ) → i < m → j < m → OneNumber kinds items i j → get_or classes i 0 ≡ get_or classes j 0
  pub name : (i j : ℕ) → i < m → j < m → OneNumber kinds items i j → get_or names i 0 ≡ get_or names j 0

-- below m no two items have one number
pub record Alone (kinds items : List ℕ) (m : ℕ) : Type 0 where
  pub one : (i j : ℕ) → i < m → j < m → OneNumber kinds items i j → i ≡ j
