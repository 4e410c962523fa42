-- How far apart the numbers in a rule's rows lie, and that no two of them are a wrong step apart.
use Rattle.std.specs.Prelude.{◌≡◌, true, ◌&&◌, List, ℕ, ◌≤◌, ◌<◌, ℤ, pos, ◌-ℤ◌, length, get_or}
use Rattle.std.specs.Int.Signed.{mag, le_z}
use Rattle.steps.specs.Levels.{raised}

-- a number of 32 bits, moved up, lies from `least` to `most`
pub record Lies (z : ℤ) (least most : ℕ) : Type 0 where
  pub from : least ≤ raised z
  pub to : raised z ≤ most
  pub small : mag z < 2147483648

-- from `least`..`most` to a wider span, into which z falls if it is a number, of value kind 1, with a key below n
pub record Widened (least most key n vkind : ℕ) (z : ℤ) (least' most' : ℕ) : Type 0 where
  pub low : least' ≤ least
  pub high : most ≤ most'
  pub fits : most < 4294967296 → most' < 4294967296
  pub here : key < n → vkind ≡ 1 → Lies z least' most'

-- the numbers with a row among the records below i lie from `least` to `most`
pub record Spanned (keys vkinds : List ℕ) (values : List ℤ) (i least most : ℕ) : Type 0 where
  pub low : least < 4294967296
  pub high : most < 4294967296
  pub each : (f : ℕ) → f < i → get_or keys f 0 < length vkinds → get_or vkinds f 0 ≡ 1 → Lies (get_or values f (pos 0)) least most

-- record f is a number with a row
pub record Numbered (keys vkinds : List ℕ) (f : ℕ) : Type 0 where
  pub here : f < length vkinds
  pub row : get_or keys f 0 < length vkinds
  pub number : get_or vkinds f 0 ≡ 1

-- the step between any two of them lies in low..high
pub record Calm (keys vkinds : List ℕ) (values : List ℤ) (low high : ℤ) : Type 0 where
  pub near : (f g : ℕ) → Numbered keys vkinds f → Numbered keys vkinds g
      → le_z low (get_or values f (pos 0) -ℤ get_or values g (pos 0)) && le_z (get_or values f (pos 0) -ℤ get_or values g (pos 0)) high ≡ true
