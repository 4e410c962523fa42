-- What the passes are given, and what they promise: an order of records, columns of numbers by record, and the soonest place at which something is amiss.
use Rattle.std.specs.Prelude.{◌≡◌, List, ℕ, ◌≤◌, ◌<◌, length, get_or}

-- what a column has for record x, 0 past its end
abbrev pub at : List ℕ → ℕ → ℕ
at column x = get_or column x 0

-- record x stands in the order
pub record On (order : List ℕ) (x : ℕ) : Type 0 where
  pub place : ℕ
  pub below : place < length order
  pub found : at order place ≡ x

-- the records of the order go up by the column
pub record Rising (order column : List ℕ) : Type 0 where
  pub up : (i j : ℕ) → i < j → j < length order → at column (at order i) ≤ at column (at order j)

-- every record of the order has its number in the column
pub record Covers (order column : List ℕ) : Type 0 where
  pub has : (j : ℕ) → j < length order → at order j < length column

-- record x is present at place p: its places are those from lo up to, not including, hi
pub record Present (lo hi : List ℕ) (x p : ℕ) : Type 0 where
  pub from : at lo x ≤ p
  pub to : p < at hi x

-- A record belongs to a pass if its key is below `room`.

-- D is no later than any place at which a record with a key is present
unfoldable pub ByLeast : (order key lo hi : List ℕ) (room D : ℕ) → Type 0
ByLeast order key lo hi room D = (x p : ℕ) → On order x → at key x < room → Present lo hi x p → D ≤ p

-- D is no later than any place at which two records of one key and of different owners are present
unfoldable pub ByClash : (order key owner lo hi : List ℕ) (room D : ℕ) → Type 0
ByClash order key owner lo hi room D =
    (x y p : ℕ) → On order x → On order y → at key x < room → at key x ≡ at key y → (at owner x ≡ at owner y → ⊥)
    → Present lo hi x p → Present lo hi y p → D ≤ p

-- D is no later than any place at which a demand is present, and no supply of its key is
unfoldable pub ByGap : (order lo demand dhi supply shi : List ℕ) (room D : ℕ) → Type 0
ByGap order lo demand dhi supply shi room D =
    (x p : ℕ) → On order x → at demand x < room → Present lo dhi x p
    → ((y : ℕ) → On order y → at supply y ≡ at demand x → Present lo shi y p → ⊥) → D ≤ p
