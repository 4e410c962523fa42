-- What the stretches are made of, and what they promise: places at which one record of a row is present, and no other of that row.
use Rattle.std.specs.Prelude.{◌≡◌, List, ℕ, ◌≤◌, ◌<◌, length}
use Rattle.passes.specs.Passes.{at, On, Rising, Present}

-- an order of some of n records that rises by lo, and a key and a begin for each of the n; a record is in a row if its key is below n
pub record Laid (order key lo : List ℕ) (n : ℕ) : Type 0 where
  pub covered : (j : ℕ) → j < length order → at order j < n
  pub keys : n ≤ length key
  pub los : n ≤ length lo
  pub rising : Rising order lo

-- of the records of row k, s alone is present at place p
pub record Alone (order key lo hi : List ℕ) (k s p : ℕ) : Type 0 where
  pub on : On order s
  pub of : at key s ≡ k
  pub here : Present lo hi s p
  pub only : (y : ℕ) → On order y → at key y ≡ k → Present lo hi y p → y ≡ s

-- each of n records has a stretch, from `from` up to `to`: if a place lies on it, the record is in a row, and `sole` alone of that row is present
pub record Stretched (order key lo hi : List ℕ) (n : ℕ) (from to sole : List ℕ) : Type 0 where
  pub from_room : n ≤ length from
  pub to_room : n ≤ length to
  pub sole_room : n ≤ length sole
  pub begun : (x : ℕ) → On order x → at lo x ≤ at from x
  pub alone : (x p : ℕ) → x < n → at from x ≤ p → p < at to x → (at key x < n) × Alone order key lo hi (at key x) (at sole x) p
