-- How many records of one key are present at a place: what the pass over crowds promises.
use Rattle.std.specs.Prelude.{◌≡◌, Bool, ◌&&◌, List, ℕ, ◌≤◌, ◌<◌, leb, ltb, eqb, length, get_or}
use Rattle.meaning.specs.Walk.{count}

-- what a column has for record x, 0 past its end
abbrev pub at : List ℕ → ℕ → ℕ
at column x = get_or column x 0

-- record y has key k and is present at place p
abbrev pub keyed_at : (keys lo hi : List ℕ) → ℕ → ℕ → ℕ → Bool
keyed_at keys lo hi k p y = eqb (at keys y) k && (leb (at lo y) p && ltb p (at hi y))

-- how many of n records have key k and are present at place p
abbrev pub present : (keys lo hi : List ℕ) → ℕ → ℕ → ℕ → ℕ
present keys lo hi n k p = count (keyed_at keys lo hi k p) 0 n

-- D is no later than any place at which more than `most` of n records of one key are present
unfoldable pub ByMany : (keys lo hi : List ℕ) (n most D : ℕ) → Type 0
ByMany keys lo hi n most D = (k p : ℕ) → k < n → most < present keys lo hi n k p → D ≤ p

-- an order of some of n records, each once, among them every one that has a key below n; it rises by the column
pub record Ordered (order column keys : List ℕ) (n : ℕ) : Type 0 where
  pub covered : (j : ℕ) → j < length order → at order j < n
  pub place : ℕ → ℕ
  pub all : (y : ℕ) → y < n → at keys y < n → (place y < length order) × (at order (place y) ≡ y)
  pub once : (j : ℕ) → j < length order → place (at order j) ≡ j
  pub rising : (i j : ℕ) → i < j → j < length order → at column (at order i) ≤ at column (at order j)
