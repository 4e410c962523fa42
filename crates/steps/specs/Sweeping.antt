-- What is sought along an order of the field versions, one search for each record.
use Rattle.std.specs.Prelude.{◌≡◌, Bool, true, List, ℕ, ◌-◌, ◌≤◌, ◌<◌, ℤ, pos, length, get_or}
use Rattle.std.specs.Int.Signed.{mag}
use Rattle.meaning.specs.Block.{limit}
use Rattle.steps.specs.Greatest.{Chain}
use Rattle.steps.specs.Stacks.{Latest, Stacked, level_at}
use Rattle.steps.specs.Levels.{bound_of, Placed, place_level}

-- one search from `start` for each record, below a bound that its value and a day give: what the stacks answer
pub record Asked (which : ℕ) (values : List ℤ) (start days : List ℕ) (low high : ℤ) (levels below leap out : List ℕ) : Type 0 where
  pub under : (f : ℕ) → f < length values → get_or out f 0 ≤ get_or start f 0
  pub small : (f : ℕ) → f < length values → mag (get_or values f (pos 0)) < 2147483648
  pub found : (f : ℕ) → f < length values → (member : ℕ → Bool) (m : ℕ) → get_or start f 0 ≤ m → Stacked member (level_at levels) m below leap
      → (0 < get_or start f 0 → member (get_or start f 0 - 1) ≡ true)
      → Latest member (level_at levels) (bound_of which (get_or values f (pos 0)) low high (get_or days f 0)) (get_or start f 0) (get_or out f 0)

-- columns of one length, an order of some of the records, chains along it, and for each record where its search starts and a day
pub record Sweepable (vkinds : List ℕ) (values : List ℤ) (begins ends order prior start days : List ℕ) : Type 0 where
  pub few : length values ≤ limit
  pub vkind : length vkinds ≡ length values
  pub begin : length begins ≡ length values
  pub end : length ends ≡ length values
  pub placed : Placed (length values) order
  pub prior_room : length order ≤ length prior
  pub start_room : length values ≤ length start
  pub days_room : length values ≤ length days
  pub start_low : (f : ℕ) → f < length values → get_or start f 0 ≤ length order

-- the same search, whoever the members of the chains are
pub record Sought (which : ℕ) (vkinds : List ℕ) (values : List ℤ) (begins ends order prior start days : List ℕ) (low high : ℤ) (out : List ℕ) : Type 0 where
  pub under : (f : ℕ) → f < length values → get_or out f 0 ≤ get_or start f 0
  pub small : (f : ℕ) → f < length values → mag (get_or values f (pos 0)) < 2147483648
  pub small_there : (j : ℕ) → j < length order → mag (get_or values (get_or order j 0) (pos 0)) < 2147483648
  pub found : (f : ℕ) → f < length values → (member : ℕ → Bool) (past : ℕ) → Chain member (length order) past prior
      → (0 < get_or start f 0 → member (get_or start f 0 - 1) ≡ true)
      → Latest member (place_level which vkinds values begins ends order) (bound_of which (get_or values f (pos 0)) low high (get_or days f 0)) (get_or start f 0) (get_or out f 0)
