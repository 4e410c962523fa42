-- Then days: what the pass along a list of the versions is given, and what it shows.
use Rattle.std.specs.Prelude.{◌≡◌, Bool, true, false, ◌&&◌, List, ℕ, ◌≤◌, ◌<◌, eqb, ltb, length, get_or, set}
use Rattle.meaning.specs.Block.{limit}

-- record v is a version of an item below m
abbrev pub under : List ℕ → List ℕ → ℕ → ℕ → Bool
under kinds parents m v = eqb (get_or kinds v 0) 2 && ltb (get_or parents v 0) m

-- the class of the item of version v
abbrev pub class_of : List ℕ → List ℕ → ℕ → ℕ
class_of parents classes v = get_or classes (get_or parents v 0) 0

-- the first `many` of the list are records, and every version is among them
pub record Lists (kinds order : List ℕ) (many : ℕ) : Type 0 where
  pub room : many ≤ length order
  pub inside : (k : ℕ) → k < many → get_or order k 0 < length kinds
  pub place : ℕ → ℕ
  pub all : (v : ℕ) → get_or kinds v 0 ≡ 2 → (place v < many) × (get_or order (place v) 0 ≡ v)

-- columns of one length, and a class below the record limit for each record
pub record Held (kinds parents begins ends classes : List ℕ) (m : ℕ) : Type 0 where
  pub parent : length parents ≡ length kinds
  pub begin : length begins ≡ length kinds
  pub end : length ends ≡ length kinds
  pub few : m ≤ length kinds
  pub class_room : length kinds ≤ length classes
  pub low : (i : ℕ) → i < length kinds → get_or classes i 0 < limit

-- version v of class c begins and ends no earlier than the reach of c, and its end is the next reach
pub record Stored (begins ends : List ℕ) (v c : ℕ) (reach reach' : List ℕ) : Type 0 where
  pub room : c < length reach
  pub begun : get_or reach c 0 ≤ get_or begins v 0
  pub ended : get_or reach c 0 ≤ get_or ends v 0
  pub next : reach' ≡ set reach c (get_or ends v 0)

-- what one step makes of the reaches: nothing, unless v is a version of an item below m
pub record Follows (kinds parents begins ends classes : List ℕ) (m v : ℕ) (reach reach' : List ℕ) : Type 0 where
  pub other : under kinds parents m v ≡ false → reach' ≡ reach
  pub taken : under kinds parents m v ≡ true → Stored begins ends v (class_of parents classes v) reach reach'

-- no two versions of items below m that have one class share a day
pub record Apart (kinds parents begins ends classes : List ℕ) (m : ℕ) : Type 0 where
  pub apart : (u v : ℕ) → under kinds parents m u ≡ true → under kinds parents m v ≡ true → class_of parents classes u ≡ class_of parents classes v
      → (u ≡ v → ⊥) → get_or begins u 0 < get_or ends v 0 → get_or begins v 0 < get_or ends u 0 → ⊥
