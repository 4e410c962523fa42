-- The levels of field versions in the stacks in which one is sought, and the bounds below which it is sought there.
use Rattle.std.specs.Prelude.{◌≡◌, cond, List, ℕ, ◌+◌, ◌-◌, ◌≤◌, ◌<◌, eqb, ℤ, pos, negsuc, length, get_or}
use Rattle.std.specs.Int.Signed.{mag}
use Rattle.meaning.specs.Block.{limit}

-- a signed number of 32 bits moved up, so that the least of them is 0
unfoldable pub raised : ℤ → ℕ
raised (pos n) = 2147483648 + n
raised (negsuc n) = 2147483647 - n

-- in stack 0 the end, in stack 1 the begin counted down, in stack 2 the value and in stack 3 the value counted down; a text is above every bound
-- for values
unfoldable pub level_of : ℕ → ℕ → ℤ → ℕ → ℕ → ℕ
level_of which vkind value begin end =
    cond (eqb which 0) end (cond (eqb which 1) (65535 - begin) (cond (eqb vkind 1) (cond (eqb which 2) (raised value) (4294967295 - raised value)) 17179869184))

-- below it lies, in stack 0, what ends by the day; in stack 1, what begins on the day or later; in stack 2, a number from which the step to z is
-- above `high`; in stack 3, one from which it is below `low`
unfoldable pub bound_of : ℕ → ℤ → ℤ → ℤ → ℕ → ℕ
bound_of which z low high day =
    cond (eqb which 0) (day + 1) (cond (eqb which 1) (65536 - day) (cond (eqb which 2) (raised z + 2147483648 - raised high) (raised low + 2147483647 - raised z)))

-- an order of some of n records, no longer than a document can be
pub record Placed (n : ℕ) (order : List ℕ) : Type 0 where
  pub few : length order ≤ limit
  pub here : (j : ℕ) → j < length order → get_or order j 0 < n

-- the level of the record at place j of an order
unfoldable pub place_level : ℕ → List ℕ → List ℤ → List ℕ → List ℕ → List ℕ → ℕ → ℕ
place_level which vkinds values begins ends order j =
    let p = get_or order j 0 in level_of which (get_or vkinds p 0) (get_or values p (pos 0)) (get_or begins p 0) (get_or ends p 0)

-- the levels of the places of an order, whose values are numbers of 32 bits
pub record Levelled (which : ℕ) (vkinds : List ℕ) (values : List ℤ) (begins ends order levels : List ℕ) : Type 0 where
  pub room : length order ≤ length levels
  pub level : (j : ℕ) → j < length order → get_or levels j 0 ≡ place_level which vkinds values begins ends order j
  pub small : (j : ℕ) → j < length order → mag (get_or values (get_or order j 0) (pos 0)) < 2147483648
